-- A port knows of more programs by each that it published. If it knows of no more in the end, nobody else published
-- any.
use Rattle.std.proofs.Common.{◌≡◌, ◌+◌, ◌≤◌, ◌⊎◌, ℕ, List, [], ◌∷◌, ◌++◌, length, Option, Some, None, refl, sym, ap, subst, ◌∙◌, inl, inr, arith, length-append}
use mathlib.Core.List.{IsPrefix}
use Rattle.spw.specs.Cargo.{Cargo}
use Rattle.rmap.specs.declared.places.Place.{Place}
use Rattle.rmap.specs.declared.places.Place.TheVariants.{Bank, Staging, LoadResult, Control}
use Rattle.rmap.specs.declared.status.Status.{Status}
use Rattle.bank.specs.Records.{JudgedValue, ShareValue}
use Rattle.node_programs.specs.declared.publishes.Publish.{Publish}
use Rattle.node_programs.specs.Histories.{entry}
use Rattle.node_parts.specs.Applied.{with_share}
use Rattle.node_parts.specs.Loaded.{EndsAs}
use Rattle.node_parts.specs.Passes.{PassValue}
use Rattle.node_parts.specs.Served.{EndsAtWindow}
use Rattle.annals.specs.Chains.{Due}
use Rattle.target.specs.Loads.{AsksForLoad}
use Rattle.ports.specs.Due.{Deed, IsBanked, IsDealt, IsJudgedInRun, IsWindowEnd, Judging, Standing, Worked, judgings, stand}
use Rattle.ports.specs.Due.Deed.{Dropped, Answered, Judged}
use Rattle.ports.specs.Laws.{publishes_of_commands, with_loaded}
use Rattle.lemmas.proofs.Prefixes.{prefix_length}

-- how many programs a command published
abbrev pub made : Option Publish → ℕ
made None = 0
made (Some publish) = 1

-- how many programs what became of a packet published
abbrev pub made_by : Deed → ℕ
made_by Dropped = 0
made_by (Answered reply) = 0
made_by (Judged j) = made j.loaded

with_length : (loaded : Option Publish) (xs : List Publish) → length (with_loaded loaded xs) ≡ made loaded + length xs
with_length None xs = omega arith
with_length (Some publish) xs = omega arith

pub loads_first : (d : Deed) (ds : List Deed) → length (publishes_of_commands (judgings (d ∷ ds))) ≡ made_by d + length (publishes_of_commands (judgings ds))
loads_first Dropped ds = omega arith
loads_first (Answered reply) ds = omega arith
loads_first (Judged j) ds = with_length j.loaded (publishes_of_commands (judgings ds))

-- ---- what is published is what was asked for

longer : (old : List Publish) (x : Publish) → length (old ++ x ∷ []) ≡ length old + 1
longer old x = length-append old (x ∷ [])

pub none_made : (port : ℕ) (loaded : Option Publish) (old new : List Publish) (asked after : List Due) → AsksForLoad port loaded old new asked after → new ≡ old → loaded ≡ None
none_made port None old new asked after asks same = refl
none_made port (Some x) old new asked after asks same = absurd (omega (arith, ap length asks.0, ap length same, longer old x))

pub one_made : (port : ℕ) (loaded : Option Publish) (old new : List Publish) (asked after : List Due) (x : Publish) → AsksForLoad port loaded old new asked after → new ≡ old ++ x ∷ [] → made loaded ≡ 1
one_made port None old new asked after x asks more = absurd (omega (arith, ap length asks.0, ap length more, longer old x))
one_made port (Some y) old new asked after x asks more = refl

none_counts : (loaded : Option Publish) → loaded ≡ None → made loaded ≡ 0
none_counts loaded is = ap made is

-- ---- how a command ends

-- how many programs a port knows of after a control write
line_grown : (port : ℕ) (loaded : Option Publish) (asked asks : List Due) (line : Option Status) (h after : PassValue) (old new : List Publish) (j : JudgedValue) (result : Status) → IsPrefix h.programs old
    → AsksForLoad port loaded old new asked asks → EndsAs line h after old new j result → length h.programs + made loaded ≤ length after.programs
line_grown port loaded asked asks (Some status) h after old new j result begins asked_for end =
    let none = none_counts loaded (none_made port loaded old new asked asks asked_for end.2) in
    let same = ap (λ (x : PassValue). length x.programs) end.1 in
    omega (arith, none, same)
line_grown port loaded asked asks None h after old new j result begins asked_for (inl it) =
    let one = one_made port loaded old new asked asks (entry it.published.slot it.published.program) asked_for it.published.extends in
    let many = ap length it.published.extends ∙ longer old (entry it.published.slot it.published.program) in
    let learnt = ap length it.published.learnt in
    let few = prefix_length h.programs old begins in
    omega (arith, one, many, learnt, few)
line_grown port loaded asked asks None h after old new j result begins asked_for (inr it) =
    let none = none_counts loaded (none_made port loaded old new asked asks asked_for it.same) in
    let same = ap (λ (x : PassValue). length x.programs) it.holder_after in
    omega (arith, none, same)

window_grown : (place : Place) (port : ℕ) (loaded : Option Publish) (asked asks : List Due) (h after : PassValue) (old new : List Publish) (j : JudgedValue) (result : Status) (reply : List ℕ) → IsPrefix h.programs old
    → AsksForLoad port loaded old new asked asks → EndsAtWindow place h after old new j result reply → length h.programs + made loaded ≤ length after.programs
window_grown (Bank k) port loaded asked asks h after old new j result reply begins asked_for end = absurd end
window_grown Staging port loaded asked asks h after old new j result reply begins asked_for end =
    let none = none_counts loaded (none_made port loaded old new asked asks asked_for end.1) in
    let same = ap (λ (x : PassValue). length x.programs) end.0.rest in
    omega (arith, none, same)
window_grown LoadResult port loaded asked asks h after old new j result reply begins asked_for end =
    let none = none_counts loaded (none_made port loaded old new asked asks asked_for end.1) in
    let same = ap (λ (x : PassValue). length x.programs) end.0.rest in
    omega (arith, none, same)
window_grown Control port loaded asked asks h after old new j result reply begins asked_for end =
    line_grown port loaded asked asks _ h after old new j result begins asked_for end.ended

share_same : (h : PassValue) (place : Place) (share : ShareValue) → (with_share h place share).programs ≡ h.programs
share_same h (Bank k) share = refl
share_same h Staging share = refl
share_same h LoadResult share = refl
share_same h Control share = refl

-- a bank's command leaves the port what it knows of programs
pub banked_programs : (j : Judging) (h after : Standing) → IsBanked j h after → after.pass.programs ≡ h.pass.programs
banked_programs j h after is = ap (λ (x : PassValue). x.programs) is.ended.finished.shares ∙ share_same h.pass j.judged.place is.ended.finished.share

end_grown : (j : Judging) (h after : Standing) → IsBanked j h after ⊎ IsWindowEnd j h after → length h.pass.programs + made j.loaded ≤ length after.pass.programs
end_grown j h after (inl is) =
    let none = none_counts j.loaded is.loaded in
    let same = ap length (banked_programs j h after is) in
    omega (arith, none, same)
end_grown j h after (inr is) =
    window_grown j.judged.place h.pass.port j.loaded h.asked after.asked h.pass after.pass is.old is.new j.judged is.result j.reply is.begins is.asks_for is.ended

pub judged_grown : (j : Judging) (p : Cargo) (h after : Standing) (is : IsJudgedInRun j p h after) → length is.between.programs + made j.loaded ≤ length after.pass.programs
judged_grown j p h after is = end_grown j (stand is.between h.asked is.reached) after is.ended

-- the programs that judged go on from those that the port knew
pub taken_longer : (j : Judging) (p : Cargo) (h after : Standing) (is : IsJudgedInRun j p h after) → IsPrefix h.pass.programs is.between.programs
taken_longer j p h after is =
    subst (λ (xs : List Publish). IsPrefix h.pass.programs xs) (sym (ap (λ (x : PassValue). x.programs) is.judgement.asked)) is.judgement.taken.longer

pub dealt_grown : (d : Deed) (p : Cargo) (h after : Standing) → IsDealt d p h after → length h.pass.programs + made_by d ≤ length after.pass.programs
dealt_grown Dropped p h after is = let same = ap (λ (x : Standing). length x.pass.programs) is.same in omega (arith, same)
dealt_grown (Answered reply) p h after is = let same = ap (λ (x : Standing). length x.pass.programs) is.same in omega (arith, same)
dealt_grown (Judged j) p h after is =
    let more = prefix_length h.pass.programs is.between.programs (taken_longer j p h after is) in
    let grown = judged_grown j p h after is in
    omega (arith, more, grown)

pub worked_grown : (h after : Standing) (ps : List Cargo) (ds : List Deed) → Worked h ps ds after → length h.pass.programs + length (publishes_of_commands (judgings ds)) ≤ length after.pass.programs
worked_grown h after [] [] w = let same = ap (λ (x : Standing). length x.pass.programs) w in omega (arith, same)
worked_grown h after [] (d ∷ ds) w = absurd w
worked_grown h after (p ∷ ps) [] w = absurd w
worked_grown h after (p ∷ ps) (d ∷ ds) w =
    let here = dealt_grown d p h w.0 w.1 in
    let rest = worked_grown w.0 after ps ds w.2 in
    let first = loads_first d ds in
    omega (arith, here, rest, first)
