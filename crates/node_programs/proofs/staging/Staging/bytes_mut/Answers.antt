use Rattle.std.proofs.Common.{◌∙◌, ◌++◌, ℕ, ap, drop, length, refl, sym, take}
use Rattle.node_programs.specs.Lending.{overlaid_bytes}
use Rattle.node_programs.specs.Staged.{Staged, staged}
use Rattle.node_programs.proofs.staging.Staging.bytes_mut.Goals as goal

pub returns : goal.returns
returns c =
    let bytes = c.self.inside.bytes.items in
    let len = sym c.deref_mut.ensures.len ∙ ap length c.deref_mut.ensures.value in (
      (refl, λ w. ap (λ (n : ℕ). staged (take n (w ++ drop (length w) bytes)) c.self.inside.result) len ∙ ap (λ (s : Staged). staged (overlaid_bytes s.bytes w) s.load_result) c.self.view_is),
      record {
        writes_back = tt;
        value = c.deref_mut.ensures.value ∙ ap (λ (s : Staged). s.bytes) c.self.view_is;
        size = ap length c.deref_mut.ensures.value ∙ c.self.invariant;
      },
    )
