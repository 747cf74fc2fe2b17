-- A run that asks the cells of a node of one thread.
use Rattle.std.proofs.Common.{◌≡◌, ℕ, List, ◌++◌, length, drop, ap, subst, ◌∙◌}
use Rattle.std.proofs.Math.Seq.{drop-append_seam}
use base.Stored.{gnil}
use Rattle.machine.specs.Sizes.{Maps}
use Rattle.machine.specs.declared.calls.Call.{Call}
use Rattle.rmap.specs.Windows.{WindowsValue}
use Rattle.node_parts.specs.Passes.{context_after, run_context, seat_at}
use Rattle.plain_cells.specs.Cells.{AreAsked, PlainCellsValue}
use Rattle.plain_cells.specs.Words.{AreCallsOn, CallsGoOn, zero_words}

drop_front : {A : Type 0} (xs ys : List A) → drop (length xs) (xs ++ ys) ≡ ys
drop_front xs ys = drop-append_seam xs ys

-- the port's calls are more by those of the run
pub more_asked : (port : ℕ) (windows : WindowsValue) (sizes : Maps) (own before after joined calls : List Call) → joined ≡ own ++ drop (length before) after → after ≡ before ++ calls
    → run_context port windows (seat_at sizes gnil joined) ≡ context_after (run_context port windows (seat_at sizes gnil own)) calls
more_asked port windows sizes own before after joined calls is more =
    ap (λ (asked : List Call). run_context port windows (seat_at sizes gnil asked)) (is ∙ ap (λ (xs : List Call). own ++ drop (length before) xs) more ∙ ap (λ (xs : List Call). own ++ xs) (drop_front before calls))

-- the calls of the run were answered by the words of the cells
pub are_asked : CallsGoOn → (before after : PlainCellsValue) (calls : List Call) → after.sizes ≡ before.sizes → after.asked ≡ before.asked ++ calls
    → AreCallsOn before.sizes (zero_words before.sizes) before.asked before.words → AreCallsOn after.sizes (zero_words after.sizes) after.asked after.words → AreAsked calls before after
are_asked law before after calls sizes more old new = record {
  sizes = sizes;
  words = law before.sizes (zero_words before.sizes) before.words after.words before.asked calls old
      (subst (λ (xs : List Call). AreCallsOn before.sizes (zero_words before.sizes) xs after.words) more (subst (λ (s : Maps). AreCallsOn s (zero_words s) after.asked after.words) sizes new));
}
