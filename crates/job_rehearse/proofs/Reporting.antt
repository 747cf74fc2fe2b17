-- What is said of whose loads a table lets pass, by what the steps before said.
use Rattle.std.proofs.Common.{◌≡◌, ◌≢◌, ◌==◌, ℕ, Bool, true, false, List, [], ◌∷◌, suc, length, Some, None, inl, inr, refl, sym, subst, arith}
use Rattle.std.proofs.lemmas.Bool.{false≢true}
use Rattle.std.proofs.lemmas.Bool.Decides.{Decides-eqb}
use Rattle.bver.specs.Justified.{AcceptedValue}
use Rattle.machine.specs.Sizes.{Maps}
use Rattle.job_rehearse.specs.OpenPorts.{PrintsAskers}
use Rattle.job_rehearse.specs.TableLoads.{AddsOwn, AsksTable, DoorsOf, LetsSixtySeven, Mends, PrintsBoth, PrintsDoors, PrintsLoaders, PrintsOf, PrintsPolicy, PrintsClosed, lead_plain, lines_or_nobody}
use Rattle.job_rehearse.specs.declared.askers.LoadInitiator.{LoadInitiator}
use Rattle.job_rehearse.specs.declared.open_ports.LoadedNode.{LoadedNode}
use Rattle.job_rehearse.specs.declared.table_loads.TableLoads.{TableLoads}

-- the lines of the same askers at the same node
pub at_node : (judge : AcceptedValue) (image lead : List ℕ) (node other : LoadedNode) (askers these : List LoadInitiator) (text : List ℕ) → node ≡ other → askers ≡ these
    → PrintsAskers judge image node lead askers text → PrintsAskers judge image other lead these text
at_node judge image lead node other askers these text same all reports =
    subst (λ (n : LoadedNode). PrintsAskers judge image n lead these text) same
    (subst (λ (a : List LoadInitiator). PrintsAskers judge image node lead a text) all reports)

-- ---- both images

pub reports_same : (ports : ℕ) (made : TableLoads) (plain own text : List ℕ) → own ≡ plain → text ≡ lines_or_nobody lead_plain plain → PrintsOf ports made plain own text
reports_same ports made plain own text same is = inl (same, is)

pub reports_other : (ports : ℕ) (made : TableLoads) (plain own before text : List ℕ) → own ≢ plain → before ≡ lines_or_nobody lead_plain plain → AddsOwn ports made before text
    → PrintsOf ports made plain own text
reports_other ports made plain own before text other is adds = inr (other, subst (λ (b : List ℕ). AddsOwn ports made b text) is adds)

-- the lines as they are lent
pub of_texts : (ports : ℕ) (made : TableLoads) (plain own first second text : List ℕ) → first ≡ plain → second ≡ own → PrintsOf ports made first second text → PrintsOf ports made plain own text
of_texts ports made plain own first second text one other reports =
    subst (λ (p : List ℕ). PrintsOf ports made p own text) one (subst (λ (o : List ℕ). PrintsOf ports made first o text) other reports)

-- ---- nobody loads

never_empty : (n : ℕ) → (suc n == 0) ≡ true → ⊥
never_empty n is =
    let none : suc n ≡ 0 = (Decides-eqb (suc n) 0).0 is in
    absurd (omega (arith, none))

pub doors_closed : (sizes : Maps) (text : List ℕ) (ports : ℕ) (made : TableLoads) (plain own reported : List ℕ) → (length plain == 0) ≡ true → (length own == 0) ≡ true
    → PrintsClosed sizes text reported → PrintsDoors sizes text ports made plain own reported
doors_closed sizes text ports made [] [] reported first second none_loads = none_loads
doors_closed sizes text ports made [] (b ∷ own) reported first second none_loads = absurd (never_empty (length own) second)
doors_closed sizes text ports made (a ∷ plain) own reported first second none_loads = absurd (never_empty (length plain) first)

pub doors_own : (sizes : Maps) (text : List ℕ) (ports : ℕ) (made : TableLoads) (plain own reported : List ℕ) → (length plain == 0) ≡ true → (length own == 0) ≡ false
    → PrintsOf ports made plain own reported → PrintsDoors sizes text ports made plain own reported
doors_own sizes text ports made [] [] reported first second reports = absurd (false≢true (sym second))
doors_own sizes text ports made [] (b ∷ own) reported first second reports = reports
doors_own sizes text ports made (a ∷ plain) own reported first second reports = absurd (never_empty (length plain) first)

pub doors_plain : (sizes : Maps) (text : List ℕ) (ports : ℕ) (made : TableLoads) (plain own reported : List ℕ) → (length plain == 0) ≡ false → (length own == 0) ≡ true
    → PrintsOf ports made plain own reported → PrintsDoors sizes text ports made plain own reported
doors_plain sizes text ports made [] own reported first second reports = absurd (false≢true (sym first))
doors_plain sizes text ports made (a ∷ plain) [] reported first second reports = reports
doors_plain sizes text ports made (a ∷ plain) (b ∷ own) reported first second reports = absurd (never_empty (length own) second)

pub doors_open : (sizes : Maps) (text : List ℕ) (ports : ℕ) (made : TableLoads) (plain own reported : List ℕ) → (length plain == 0) ≡ false → (length own == 0) ≡ false
    → reported ≡ [] → PrintsDoors sizes text ports made plain own reported
doors_open sizes text ports made [] own reported first second is = absurd (false≢true (sym first))
doors_open sizes text ports made (a ∷ plain) [] reported first second is = absurd (false≢true (sym second))
doors_open sizes text ports made (a ∷ plain) (b ∷ own) reported first second is = is

-- the same lines as they are lent
pub doors_of_texts : (sizes : Maps) (text : List ℕ) (ports : ℕ) (made : TableLoads) (plain own first second reported : List ℕ) → first ≡ plain → second ≡ own
    → PrintsDoors sizes text ports made first second reported → PrintsDoors sizes text ports made plain own reported
doors_of_texts sizes text ports made plain own first second reported one other reports =
    subst (λ (p : List ℕ). PrintsDoors sizes text ports made p own reported) one (subst (λ (o : List ℕ). PrintsDoors sizes text ports made first o reported) other reports)

-- ---- of a text

pub loaders_some : (sizes : Maps) (text : List ℕ) (ports : ℕ) (made : TableLoads) (reported : List ℕ) → AsksTable sizes text (Some made) → PrintsBoth ports made reported → PrintsLoaders sizes text ports reported
loaders_some sizes text ports made reported asks reports = (Some made, asks, reports)

pub loaders_none : (sizes : Maps) (text : List ℕ) (ports : ℕ) (reported : List ℕ) → AsksTable sizes text None → reported ≡ [] → PrintsLoaders sizes text ports reported
loaders_none sizes text ports reported asks is = (None, asks, is)

pub mends_some : (sizes : Maps) (text : List ℕ) (made : TableLoads) (is : Bool) → AsksTable sizes text (Some made) → LetsSixtySeven made is → Mends sizes text is
mends_some sizes text made is asks lets = (Some made, asks, lets)

pub mends_none : (sizes : Maps) (text : List ℕ) → AsksTable sizes text None → Mends sizes text false
mends_none sizes text asks = (None, asks, refl)

pub policy_some : (sizes : Maps) (text : List ℕ) (ports : ℕ) (made : TableLoads) (reported : List ℕ) → AsksTable sizes text (Some made) → DoorsOf sizes text ports made reported → PrintsPolicy sizes text ports reported
policy_some sizes text ports made reported asks doors = (Some made, asks, doors)

pub policy_none : (sizes : Maps) (text : List ℕ) (ports : ℕ) (reported : List ℕ) → AsksTable sizes text None → reported ≡ [] → PrintsPolicy sizes text ports reported
policy_none sizes text ports reported asks is = (None, asks, is)
