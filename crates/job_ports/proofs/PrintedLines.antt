-- Lines that are printed one after the other.
use Rattle.std.proofs.Common.{◌≡◌, ◌+◌, ◌<◌, ℕ, suc, List, [], ◌∷◌, ◌++◌, codes, length, map, take, get_or, refl, sym, ap, arith, ◌∙◌}
use Rattle.std.specs.Prelude.{decimal}
use Rattle.std.proofs.lemmas.Grind.{flat_map-append}
use Rattle.std.proofs.lemmas.List.{append-nil, append_assoc, length-map, length-take-le, map_push, take_more}
use Rattle.hex.specs.Hex.{encode_upper}
use Rattle.ports.specs.Sinks.{SinkValue, replies_in}
use Rattle.job_parts.specs.Replies.{reply_line}
use Rattle.job_ports.specs.ServeJob.{lines_from, port_lines}
use Rattle.job_ports.specs.Ends.{PortEnd}
use Rattle.job_ports.specs.ServedFile.{replies_of}

-- The parts of the line of a reply.
pub reply_parts : (port : ℕ) (reply : List ℕ) → (reply ≡ [] → ⊥)
    → ((decimal port ++ codes " ") ++ encode_upper reply) ++ (codes " EOP" ++ 10 ∷ []) ≡ reply_line port reply
reply_parts port [] some = absurd (some refl)
reply_parts port (byte ∷ bytes) some =
    sym (append_assoc ((decimal port ++ codes " ") ++ encode_upper (byte ∷ bytes)) (codes " EOP") (10 ∷ []))

-- One more reply of a port.
pub lines_more : (port : ℕ) (replies : List (List ℕ)) (reply : List ℕ) → port_lines port (replies ++ reply ∷ []) ≡ port_lines port replies ++ reply_line port reply
lines_more port replies reply =
    flat_map-append (reply_line port) replies (reply ∷ []) ∙ ap (λ (l : List ℕ). port_lines port replies ++ l) (append-nil (reply_line port reply))

-- The same of a list that shows replies, at a place.
pub lines_at : {X : Type 0} (shown : X → List ℕ) (port : ℕ) (replies : List X) (k : ℕ) (d : X) (reply : List ℕ) → k < length replies → reply ≡ shown (get_or replies k d)
    → port_lines port (map shown (take (k + 1) replies)) ≡ port_lines port (map shown (take k replies)) ++ reply_line port reply
lines_at {X} shown port replies k d reply below is =
    ap (λ (l : List X). port_lines port (map shown l)) (take_more replies k d below)
    ∙ ap (port_lines port) (map_push shown (take k replies) (get_or replies k d))
    ∙ lines_more port (map shown (take k replies)) (shown (get_or replies k d))
    ∙ ap (λ (r : List ℕ). port_lines port (map shown (take k replies)) ++ reply_line port r) (sym is)

-- One more port.
ports_more : (first : ℕ) (all : List (List (List ℕ))) (replies : List (List ℕ))
    → lines_from first (all ++ replies ∷ []) ≡ lines_from first all ++ port_lines (first + length all) replies
ports_more first [] replies =
    let same : first ≡ first + 0 = omega arith in
    append-nil (port_lines first replies) ∙ ap (λ (n : ℕ). port_lines n replies) same
ports_more first (own ∷ all) replies =
    let same : suc first + length all ≡ first + length (own ∷ all) = omega arith in
    ap (λ (l : List ℕ). port_lines first own ++ l) (ports_more (suc first) all replies ∙ ap (λ (n : ℕ). lines_from (suc first) all ++ port_lines n replies) same)
    ∙ sym (append_assoc (port_lines first own) (lines_from (suc first) all) (port_lines (first + length (own ∷ all)) replies))

-- The same of a list that shows the replies of ports, at a place.
pub ports_at : {X : Type 0} (shown : X → List (List ℕ)) (sinks : List X) (k port : ℕ) (d : X) (replies : List (List ℕ)) → k < length sinks → port ≡ k → replies ≡ shown (get_or sinks k d)
    → lines_from 0 (map shown (take (k + 1) sinks)) ≡ lines_from 0 (map shown (take k sinks)) ++ port_lines port replies
ports_at {X} shown sinks k port d replies below at is =
    let place : 0 + length (map shown (take k sinks)) ≡ port = omega (arith, at, below, length-map (take k sinks) shown, length-take-le k sinks) in
    ap (λ (l : List X). lines_from 0 (map shown l)) (take_more sinks k d below)
    ∙ ap (lines_from 0) (map_push shown (take k sinks) (get_or sinks k d))
    ∙ ports_more 0 (map shown (take k sinks)) (shown (get_or sinks k d))
    ∙ ap (λ (n : ℕ). lines_from 0 (map shown (take k sinks)) ++ port_lines n (shown (get_or sinks k d))) place
    ∙ ap (λ (r : List (List ℕ)). lines_from 0 (map shown (take k sinks)) ++ port_lines port r) (sym is)

-- The replies of each port are those of its sink.
pub sent_of : (ends : List PortEnd) → map (λ (s : SinkValue). replies_in s.sent) (map (λ (end : PortEnd). end.sink) ends) ≡ replies_of ends
sent_of [] = refl
sent_of (end ∷ ends) = ap (λ (l : List (List (List ℕ))). replies_in end.sink.sent ∷ l) (sent_of ends)
