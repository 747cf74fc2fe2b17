-- What some events of one port leave as it was.
use Rattle.std.proofs.Common.{◌≡◌, ◌==◌, ℕ, Bool, true, false, [], ◌∷◌, ◌++◌, refl, sym, ap, ◌∙◌, eqb-true, arith}
use Rattle.std.specs.Prelude.{if◌then◌else◌}
use Rattle.std.proofs.lemmas.Bool.Decides.{nat_tests}
use Rattle.sched.specs.declared.event.Event.{Event}
use Rattle.sched.specs.declared.event.Outcome.{Outcome}
use Rattle.sched.specs.History.{History, Then, opened, opened_by, port_of}
use Rattle.sched.specs.Looking.{Node, entries, published, publishes, staged_by, staging}
use Rattle.lawful.specs.Happenings.{happened_at, happening}

pub itself : (q : ℕ) → (q == q) ≡ true
itself q = grind (arith, nat_tests)

pub at_port : (e : Event) (port : ℕ) → port_of e ≡ port → (port_of e == port) ≡ true
at_port e port is = ap (λ (q : ℕ). port_of e == q) (sym is) ∙ itself (port_of e)

pub apart : (p q : ℕ) → (q ≡ p → ⊥) → (p == q) ≡ false
apart p q other = by (p == q) refl
  where
    by : (b : Bool) → (p == q) ≡ b → (p == q) ≡ false
    by true is = absurd (other (sym (eqb-true p q is)))
    by false is = is

pub apart_port : (e : Event) (port q : ℕ) → port_of e ≡ port → (q ≡ port → ⊥) → (port_of e == q) ≡ false
apart_port e port q is other = apart (port_of e) q (λ same. other (same ∙ is))

-- ---- one event

pub opened_here : (h : History) (e : Event) (o : Outcome) (port : ℕ) → port_of e ≡ port → opened (Then h e o) port ≡ opened_by h (opened h port) e o
opened_here h e o port is = ap (λ (b : Bool). if b then opened_by h (opened h port) e o else opened h port) (at_port e port is)

pub opened_elsewhere : (h : History) (e : Event) (o : Outcome) (port q : ℕ) → port_of e ≡ port → (q ≡ port → ⊥) → opened (Then h e o) q ≡ opened h q
opened_elsewhere h e o port q is other = ap (λ (b : Bool). if b then opened_by h (opened h q) e o else opened h q) (apart_port e port q is other)

pub staging_here : (n : Node) (h : History) (e : Event) (o : Outcome) (port : ℕ) → port_of e ≡ port → staging n (Then h e o) port ≡ staged_by n (opened h port) o (staging n h port)
staging_here n h e o port is = ap (λ (b : Bool). if b then staged_by n (opened h port) o (staging n h port) else staging n h port) (at_port e port is)

pub staging_elsewhere : (n : Node) (h : History) (e : Event) (o : Outcome) (port q : ℕ) → port_of e ≡ port → (q ≡ port → ⊥) → staging n (Then h e o) q ≡ staging n h q
staging_elsewhere n h e o port q is other = ap (λ (b : Bool). if b then staged_by n (opened h q) o (staging n h q) else staging n h q) (apart_port e port q is other)

pub happened_here : (h : History) (e : Event) (o : Outcome) (port : ℕ) → port_of e ≡ port → happened_at port (Then h e o) ≡ happened_at port h ++ happening e o ∷ []
happened_here h e o port is = ap (λ (b : Bool). if b then happened_at port h ++ happening e o ∷ [] else happened_at port h) (at_port e port is)

pub happened_elsewhere : (h : History) (e : Event) (o : Outcome) (port q : ℕ) → port_of e ≡ port → (q ≡ port → ⊥) → happened_at q (Then h e o) ≡ happened_at q h
happened_elsewhere h e o port q is other = ap (λ (b : Bool). if b then happened_at q h ++ happening e o ∷ [] else happened_at q h) (apart_port e port q is other)

-- ---- what stays

-- at other ports nothing happened, and what looking back finds there is as it was
pub record StaysElsewhere (n : Node) (port : ℕ) (h after : History) : Type 0 where
  pub nothing : (q : ℕ) → (q ≡ port → ⊥) → happened_at q after ≡ happened_at q h
  pub commands : (q : ℕ) → (q ≡ port → ⊥) → opened after q ≡ opened h q
  pub stagings : (q : ℕ) → (q ≡ port → ⊥) → staging n after q ≡ staging n h q

pub one_elsewhere : (n : Node) (h : History) (e : Event) (o : Outcome) (port : ℕ) → port_of e ≡ port → StaysElsewhere n port h (Then h e o)
one_elsewhere n h e o port is = record {
  nothing = λ q other. happened_elsewhere h e o port q is other;
  commands = λ q other. opened_elsewhere h e o port q is other;
  stagings = λ q other. staging_elsewhere n h e o port q is other;
}

pub elsewhere_on : (n : Node) (port : ℕ) (h between after : History) → StaysElsewhere n port h between → StaysElsewhere n port between after → StaysElsewhere n port h after
elsewhere_on n port h between after a b = record {
  nothing = λ q other. b.nothing q other ∙ a.nothing q other;
  commands = λ q other. b.commands q other ∙ a.commands q other;
  stagings = λ q other. b.stagings q other ∙ a.stagings q other;
}

pub elsewhere_same : (n : Node) (port : ℕ) (h : History) → StaysElsewhere n port h h
elsewhere_same n port h = record { nothing = λ q other. refl; commands = λ q other. refl; stagings = λ q other. refl }

-- nothing was published and no entry left, the port's staging is as it was, and so is all elsewhere
pub record Keeps (n : Node) (port : ℕ) (h after : History) : Type 0 where
  pub programs : (slot : ℕ) → published n after slot ≡ published n h slot
  pub count : publishes n after ≡ publishes n h
  pub banks : (k : ℕ) → entries n after k ≡ entries n h k
  pub own : staging n after port ≡ staging n h port
  pub elsewhere : StaysElsewhere n port h after

pub keeps_same : (n : Node) (port : ℕ) (h : History) → Keeps n port h h
keeps_same n port h = record { programs = λ slot. refl; count = refl; banks = λ k. refl; own = refl; elsewhere = elsewhere_same n port h }

pub keeps_on : (n : Node) (port : ℕ) (h between after : History) → Keeps n port h between → Keeps n port between after → Keeps n port h after
keeps_on n port h between after a b = record {
  programs = λ slot. b.programs slot ∙ a.programs slot;
  count = b.count ∙ a.count;
  banks = λ k. b.banks k ∙ a.banks k;
  own = b.own ∙ a.own;
  elsewhere = elsewhere_on n port h between after a.elsewhere b.elsewhere;
}
