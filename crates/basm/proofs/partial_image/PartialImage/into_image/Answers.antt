use Rattle.std.proofs.Common.{◌≡◌, ℕ, List, Ok, Result, rules, ap, ◌∙◌}
use Rattle.std.proofs.lemmas.List.Sorted.{IsNonDecreasingBy-from_sort, answers_always}
use Rattle.bpf_insn.specs.declared.insn.Insn.{Insn}
use Rattle.bpf.specs.declared.fault.ImageFault.{ImageFault}
use Rattle.bpf.specs.declared.loops.Loop.{Loop}
use Rattle.bpf.specs.declared.version.Version.{Version}
use Rattle.bpf.specs.Parts.{parts_reading}
use Rattle.bpf.specs.Program.{Program}
use Rattle.basm.proofs.Images.{image_reading, refused}
use Rattle.basm.proofs.partial_image.PartialImage.into_image.Goals as goal

-- lent parts are equal to the parts
lent : (version : Version) (insns given : List Insn) (loops sorted : List Loop) (budget : ℕ) → insns ≡ given → loops ≡ sorted → parts_reading version insns loops budget ≡ parts_reading version given sorted budget
lent version insns given loops sorted budget same_insns same_loops =
    ap (λ (is : List Insn). parts_reading version is loops budget) same_insns ∙ ap (λ (ls : List Loop). parts_reading version given ls budget) same_loops

same_image : (image p : Program) (read : Result Program ImageFault) → read ≡ Ok image → read ≡ Ok p → image ≡ p
same_image image p read one two = cc

pub returns-clause-exact : goal.returns-clause-exact
returns-clause-exact c = λ p image.
    let read = lent _ _ _ _ _ c.in_ok-budget.budget c.deref.ensures.value c.deref-2.ensures.value in
    let heads = IsNonDecreasingBy-from_sort (λ (l : Loop). l.head) c.sort_unstable_by_key.new.self.items (c.sort_unstable_by_key.ensures.sorted (λ l. l.head) (answers_always _ _ _ (λ f a r g h. search rules))) in
    same_image _ p _ c.in_ok-new.ensures.exact (read ∙ image_reading c.args.self c.sort_unstable_by_key.new.self.items c.version-version.result c.in_ok-budget.budget p c.version-version.ensures c.in_ok-budget.ensures.ok_part c.sort_unstable_by_key.ensures.permutation heads image)

pub returns-in_err-new-clause-exact : goal.returns-in_err-new-clause-exact
returns-in_err-new-clause-exact c = λ p image.
    let read = lent _ _ _ _ _ c.in_ok-budget.budget c.deref.ensures.value c.deref-2.ensures.value in
    let heads = IsNonDecreasingBy-from_sort (λ (l : Loop). l.head) c.sort_unstable_by_key.new.self.items (c.sort_unstable_by_key.ensures.sorted (λ l. l.head) (answers_always _ _ _ (λ f a r g h. search rules))) in
    refused _ c.in_err-new.field-0.0 p _ (read ∙ image_reading c.args.self c.sort_unstable_by_key.new.self.items c.version-version.result c.in_ok-budget.budget p c.version-version.ensures c.in_ok-budget.ensures.ok_part c.sort_unstable_by_key.ensures.permutation heads image) c.in_err-new.ensures.exact c.from_residual-in_err-new.ensures.1
