use Rattle.std.proofs.lemmas.Result.{err_from_is_err_and}
use Rattle.spw.specs.Line.{mark_word, words_of}
use Rattle.spw.proofs.LineLemmas.{mark_word-same, no_bytes, reading_of_words}
use Rattle.spw.proofs.lines.read_part.Goals as goal

pub returns-in_err-bytes : goal.returns-in_err-bytes
returns-in_err-bytes c =
    let p = err_from_is_err_and c.from_residual-in_err-bytes.result c.from_residual-in_err-bytes.ensures.1 in
    rw (p.1, p.2) (no_bytes mark_word mark_word-same (λ r. (r.0, r.1.items, r.2)) c.args.line.now _ (words_of c.in_ok-port.hex.now) _ _ _
    c.in_ok-port.ensures c.in_ok-mark.ensures c.in_err-bytes.ensures)

pub returns : goal.returns
returns c =
    let bytes = c.in_ok-bytes.ensures in
    reading_of_words mark_word mark_word-same (λ r. (r.0, r.1.items, r.2)) c.args.line.now (words_of c.in_ok-port.hex.now) _ (c.in_ok-port.port, c.in_ok-bytes.bytes, c.in_ok-mark.mark)
    c.in_ok-port.ensures c.in_ok-mark.ensures bytes.0 bytes.1
