use Rattle.std.proofs.lemmas.Result.{err_from_is_err_and}
use Rattle.spw.specs.Line.{marker_word, words_of}
use Rattle.spw.proofs.LineLemmas.{marker_word-same, no_bytes, reading_of_words}
use Rattle.spw.proofs.lines.read_line.Goals as goal

pub returns-in_err-bytes : goal.returns-in_err-bytes
returns-in_err-bytes c =
    let p = err_from_is_err_and c.from_residual-in_err-bytes.result c.from_residual-in_err-bytes.ensures.1 in
    rw (p.1, p.2) (no_bytes marker_word marker_word-same (λ r. (r.0, r.1.bytes, r.1.end)) c.args.line.now _ (words_of c.in_ok-port.hex.now) _ _ _
    c.in_ok-port.ensures c.in_ok-end.ensures c.in_err-bytes.ensures)

pub returns : goal.returns
returns c =
    let bytes = c.in_ok-bytes.ensures in
    rw c.in_ok-new.ensures.ok (reading_of_words marker_word marker_word-same (λ r. (r.0, r.1.bytes, r.1.end)) c.args.line.now (words_of c.in_ok-port.hex.now) _
    (c.in_ok-port.port, record { bytes = c.in_ok-bytes.bytes.items; end = c.in_ok-end.end })
    c.in_ok-port.ensures c.in_ok-end.ensures bytes.0 bytes.1)
