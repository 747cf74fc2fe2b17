use Rattle.std.proofs.Common.{◌++◌, ◌∙◌, List, ℕ, ap, refl, string_bytes}
use Rattle.job_packets.specs.Requests.{fields_with}
use Rattle.job_packets.proofs.Instructions.{line_is}
use Rattle.job_packets.proofs.requests.add_line.Goals as goal

pub returns : goal.returns
returns c =
    let line = line_is c.args.header.now c.args.request (fields_with c.args.header.now c.args.request) c.args.body.now _ _ (c.as_str.ensures.value ∙ c.in_ok-digits.ensures)
    (c.as_slice.ensures.value ∙ c.in_ok-bytes.ensures.bytes) refl in
    c.in_ok-add_marked.ensures ∙ ap (λ (l : List ℕ). string_bytes c.args.text.now ++ l) line
