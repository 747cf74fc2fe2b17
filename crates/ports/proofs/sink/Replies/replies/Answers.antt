use Rattle.std.proofs.Common.{map, sym, ap, ◌∙◌}
use Rattle.std.specs.Vec.{vec_items}
use Rattle.ports.specs.Sinks.{SinkValue, replies_in}
use Rattle.ports.proofs.Sending.{replies_of_sent}
use Rattle.ports.proofs.sink.Replies.replies.Goals as goal

pub returns : goal.returns
returns c =
    ap (map vec_items) c.as_slice.ensures.value ∙ sym (replies_of_sent c.self.inside.port (map vec_items c.self.inside.replies.items))
    ∙ ap (λ (s : SinkValue). replies_in s.sent) c.self.view_is
