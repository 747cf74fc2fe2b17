use Rattle.std.proofs.Common.{◌≡◌, ℕ, List, rules, sym, ap, ◌∙◌}
use Rattle.single_node.specs.Nodes.{SingleNodeValue}
use Rattle.scrub.specs.declared.answer.ServedAnswer.{ServedAnswer}
use Rattle.spw.specs.Cargo.{Cargo}
use Rattle.spw.specs.declared.packets.End.{End}
use Rattle.single_node_c.specs.Numbers.{served_numbers}
use Rattle.single_node_c.specs.Parts.{served_parts}
use Rattle.single_node_c.specs.Serving.{room_after_command}
use Rattle.single_node_c.specs.declared.numbers.ServedNumbers.{ServedNumbers}
use Rattle.single_node_c.specs.declared.parts.ServedParts.{ServedParts}
use Rattle.single_node_c.proofs.serving.serve_packet.Goals as goal

-- the numbers of what the node reported, by the parts and the room that were found
numbers_reported : (answer : ServedAnswer) (packet : Cargo) (node : SingleNodeValue) (parts : ServedParts) (left : ℕ) (numbers : ServedNumbers) → numbers ≡ served_numbers answer parts left answer.size
    → left ≡ room_after_command answer.reported.served parts.extended node → parts ≡ served_parts packet
    → numbers ≡ served_numbers answer (served_parts packet) (room_after_command answer.reported.served (served_parts packet).extended node) answer.size
numbers_reported answer packet node parts left numbers are room asked =
    are
    ∙ ap (λ (n : ℕ). served_numbers answer parts n answer.size) room
    ∙ ap (λ (p : ServedParts). served_numbers answer p (room_after_command answer.reported.served p.extended node) answer.size) asked

pub returns : goal.returns
returns c =
    let asked : c.of-parts.result ≡ served_parts c.args.packet =
    c.of-parts.ensures
    ∙ ap (λ (bytes : List ℕ). served_parts (record { bytes = bytes; end = c.end-end.result })) (sym c.requires.bytes)
    ∙ ap (λ (end : End). served_parts (record { bytes = c.args.packet.bytes; end = end })) c.end-end.ensures in
    record {
      answer = c.serve-answer.result;
      serves = c.serve-answer.ensures.serves;
      numbers_are = numbers_reported c.serve-answer.result c.args.packet c.serve-answer.new.self.node c.of-parts.result _ c.of.result c.of.ensures (search rules) asked;
    }
