-- A judged command of a world ends by an Effect: it can, and the world fits still.
use Rattle.std.proofs.Common.{◌≡◌, ◌≢◌, ◌<◌, ℕ, List, length, set, Bool, true, false, cond, ◌==◌, Option, Some, None, refl, sym, ap, subst, ◌∙◌, arith, eqb-true, inl, inr}
use Rattle.std.specs.Prelude.{slice_get, slice_set}
use Rattle.std.proofs.lemmas.Bool.{eqb-false}
use Rattle.std.proofs.lemmas.List.{length-map, length-set}
use Rattle.std.proofs.lemmas.Option.{slice_get_cases, slice_get_within, cond_some}
use Rattle.rmap.specs.declared.kind.Kind.{Kind}
use Rattle.rmap.specs.declared.kind.Kind.TheVariants.{Read, Write, Rmw, Unused}
use Rattle.rmap.specs.declared.places.Place.{Place}
use Rattle.rmap.specs.declared.places.Place.TheVariants as places
use Rattle.rmap.specs.declared.status.Status.{Status}
use Rattle.rmap.specs.Command.{CommandValue, command_of, command_kind, extended_of}
use Rattle.rmap.specs.Windows.{WindowsValue, place_of, bank_place, boot_place, load_register_of, is_register, is_staged, lies_inside}
use Rattle.machine.specs.Sizes.{Maps}
use Rattle.bank.specs.Admission.{IsPlacedBy}
use Rattle.bank.specs.Records.{BankValue, after_command, extent_of, fits, next_share}
use Rattle.node_parts.specs.Applied.{share_of, with_share}
use Rattle.node_parts.specs.Pairs.{IsPaired, PairedCommandsFit, OwnStaysPaired, OthersStayPaired}
use Rattle.sched.specs.Ends.{judged_with, share_in, with_share_in, FitsBank, CanEnd, CanFinish, EndsAt, HasPortFinished}
use Rattle.sched.specs.Worlds.{RunValue, PortValue, WorldValue, IsPortIn, ArePortsIn, IsRunUnder, IsRunUnderIfAny, IsWorld, pass_of_port}
use Rattle.sched.proofs.Growth.{at_written}
use Rattle.lemmas.proofs.Places.{at_other}
use Rattle.sched.proofs.Keeping.{port_keeps, world_with_port}

-- ---- the bank of a place is there

-- the place is no bank
abbrev IsNoBank : Option Place → Type 0
IsNoBank None = Unit {0}
IsNoBank (Some (places.Bank k)) = ⊥
IsNoBank (Some places.Staging) = Unit {0}
IsNoBank (Some places.LoadResult) = Unit {0}
IsNoBank (Some places.Control) = Unit {0}

either : (b : Bool) (x y : Option Place) → IsNoBank x → IsNoBank y → IsNoBank (cond b x y)
either true x y first second = first
either false x y first second = second

no_register : (kind : Kind) (c : CommandValue) → IsNoBank (load_register_of kind c)
no_register Read c = either (is_register 8 c) (Some places.LoadResult) None tt tt
no_register Write c = either (is_register 4 c) (Some places.Control) None tt tt
no_register Rmw c = tt
no_register Unused c = tt

-- the boot window is no bank
no_bank : (c : CommandValue) → IsNoBank (bank_place None c)
no_bank c = either (extended_of c == 255) (boot_place c) None (either (is_staged c) (Some places.Staging) (load_register_of (command_kind c) c) tt (no_register (command_kind c) c)) tt

same_bank : (j k : ℕ) → places.Bank j ≡ places.Bank k → j ≡ k
same_bank j k e = cc

bank_below : (w : WindowsValue) (c : CommandValue) (k : ℕ) (found : Option (ℕ × ℕ)) → slice_get w.banks (extended_of c) ≡ found → bank_place found c ≡ Some (places.Bank k) → k < length w.banks
bank_below w c k None e is = absurd (subst IsNoBank is (no_bank c))
bank_below w c k (Some bank) e is =
    let named = cond_some (lies_inside bank.0 bank.1 c) (places.Bank (extended_of c)) (places.Bank k) is in
    rw (← same_bank (extended_of c) k named.1) (slice_get_within w.banks (extended_of c) bank e)

-- a bank where a command's bytes lie is one of the windows
bank_named : (w : WindowsValue) (c : CommandValue) (k : ℕ) → place_of c w ≡ Some (places.Bank k) → k < length w.banks
bank_named w c k is = bank_below w c k (slice_get w.banks (extended_of c)) refl is

-- ---- a judged command can end

-- a judged command of a port of the world lies where its place says, at a place that is its own
record IsPlacedIn (w : WorldValue) (port : ℕ) (p : PortValue) (r : RunValue) : Type 0 where
  there : slice_get w.ports port ≡ Some p
  placed : IsPlacedBy w.windows r.packet r.place

-- the bank of that number is there, and is the one of the world
found : {A : Type 0} (xs : List A) (k : ℕ) → k < length xs → (x : A) × (slice_get xs k ≡ Some x)
found xs k below = elim ((slice_get_cases xs k).1) [
  | inl here ↦ (here.0, here.2)
  | inr past ↦ absurd (omega (arith, below, past.0))
]

fits_bank : (w : WorldValue) (port verdict k : ℕ) (p : PortValue) (r : RunValue) → PairedCommandsFit → IsWorld w → IsPlacedIn w port p r → r.place ≡ places.Bank k
    → FitsBank w.banks (record p { run = None }) k (judged_with port verdict r)
fits_bank w port verdict k p r law world is at =
    let h = pass_of_port w.windows w.sizes port p in
    let j = judged_with port verdict r in
    let paired = (world.ports port p is.there).paired in
    let named : k < length w.windows.banks = bank_named w.windows (command_of r.packet) k (is.placed.lies ∙ ap (λ (place : Place). Some place) at) in
    let below : k < length w.banks = omega (arith, named, ap length paired.windows, length-map w.banks extent_of) in
    let bank = found w.banks k below in
    let whole = law w.banks h k j bank.0 paired refl is.placed at bank.1 in
    record {
      bank = bank.0;
      there = bank.1;
      shared = rw paired.count below;
      fits_it = subst (λ (place : Place). fits bank.0 (share_of h place) j ≡ true) at whole;
    }

can_end : (w : WorldValue) (port verdict : ℕ) (p : PortValue) (r : RunValue) (place : Place) → PairedCommandsFit → IsWorld w → IsPlacedIn w port p r → r.place ≡ place → place ≢ places.Control
    → CanEnd place w.banks (record p { run = None }) (judged_with port verdict r)
can_end w port verdict p r (places.Bank k) law world is at other = fits_bank w port verdict k p r law world is at
can_end w port verdict p r places.Staging law world is at other = tt
can_end w port verdict p r places.LoadResult law world is at other = tt
can_end w port verdict p r places.Control law world is at other = absurd (other refl)

-- the run of a port of the world lies under its windows
pub run_under : (w : WorldValue) (port : ℕ) (p : PortValue) (r : RunValue) → IsWorld w → slice_get w.ports port ≡ Some p → p.run ≡ Some r → IsRunUnder w.windows w.sizes r
run_under w port p r world there is = subst (IsRunUnderIfAny w.windows w.sizes) is (world.ports port p there).run

-- the command that a port judges can end by an Effect, if it is no control write
pub can_finish : (w : WorldValue) (port verdict : ℕ) (p : PortValue) (r : RunValue) → PairedCommandsFit → IsWorld w → slice_get w.ports port ≡ Some p → p.run ≡ Some r → r.place ≢ places.Control
    → CanFinish w.windows w.banks port verdict p p.run
can_finish w port verdict p r law world there is other =
    let under = run_under w port p r world there is in
    subst (CanFinish w.windows w.banks port verdict p) (sym is)
    (under.placed, can_end w port verdict p r r.place law world (record { there = there; placed = under.placed }) refl other)

-- ---- the world fits still

-- a port that judges nothing fits if its shares are paired
free_port : (w : WindowsValue) (sizes : Maps) (banks : List BankValue) (port : ℕ) (p : PortValue) → IsPaired banks (pass_of_port w sizes port p) → p.run ≡ None → IsPortIn w sizes banks port p
free_port w sizes banks port p paired free = record {
  paired = paired;
  run = subst (IsRunUnderIfAny w sizes) (sym free) tt;
}

-- a world of which banks and one port were written, so that each port fits
record FitsAll (w : WorldValue) (new : List BankValue) (port : ℕ) (q : PortValue) : Type 0 where
  own : IsPortIn w.windows w.sizes new port q
  others : (i : ℕ) (x : PortValue) → i ≢ port → slice_get w.ports i ≡ Some x → IsPortIn w.windows w.sizes new i x

ports_fit : (w : WorldValue) (new : List BankValue) (port : ℕ) (p q : PortValue) → slice_get w.ports port ≡ Some p → FitsAll w new port q → ArePortsIn w.windows w.sizes new (slice_set w.ports port q)
ports_fit w new port p q there is = λ i x at. by i x at (i == port) refl
  where
    by : (i : ℕ) (x : PortValue) → slice_get (set w.ports port q) i ≡ Some x → (own : Bool) → (i == port) ≡ own → IsPortIn w.windows w.sizes new i x
    by i x at true own =
        let same = eqb-true i port own in
        rw (same, at_written w.ports port i p q x there same at) is.own
    by i x at false own = is.others i x (eqb-false i port own) (at_other w.ports port i q x (eqb-false i port own) at)

world_fits : (w : WorldValue) (new : List BankValue) (port : ℕ) (p q : PortValue) → IsWorld w → slice_get w.ports port ≡ Some p → FitsAll w new port q → IsWorld (record w { banks = new; ports = slice_set w.ports port q })
world_fits w new port p q world there is = record {
  cells = world.cells;
  slots = world.slots;
  accepted = world.accepted;
  few_ports = rw (length-set w.ports port q) world.few_ports;
  ports = ports_fit w new port p q there is;
}

-- after a command that ended at a bank each port is paired
bank_fits : (w : WorldValue) (port verdict k : ℕ) (p : PortValue) (r : RunValue) (b : BankValue) → OwnStaysPaired → OthersStayPaired → IsWorld w → slice_get w.ports port ≡ Some p → r.place ≡ places.Bank k → slice_get w.banks k ≡ Some b
    → FitsAll w (slice_set w.banks k (after_command b (share_in p k port) (judged_with port verdict r))) port (with_share_in (record p { run = None }) k (next_share b (share_in p k port) (judged_with port verdict r)))
bank_fits w port verdict k p r b own others world there at bank =
    let h = pass_of_port w.windows w.sizes port p in
    let j = judged_with port verdict r in
    let stays = own w.banks h k j b (world.ports port p there).paired refl at bank in
    record {
      own = free_port w.windows w.sizes _ port _ (subst (λ (place : Place). IsPaired (slice_set w.banks k (after_command b (share_of h place) j)) (with_share h place (next_share b (share_of h place) j))) at stays) refl;
      others = λ i x apart here.
          let fits_here = world.ports i x here in
          record {
            paired = others w.banks (pass_of_port w.windows w.sizes i x) k (share_in p k port) j b fits_here.paired apart bank;
            run = fits_here.run;
          };
    }

-- after a command that ended at a staging each port is paired as before
staging_fits : (w : WorldValue) (port : ℕ) (p q : PortValue) → IsWorld w → slice_get w.ports port ≡ Some p → q ≡ record p { run = None; staging = q.staging } → IsWorld (record w { ports = slice_set w.ports port q })
staging_fits w port p q world there is =
    world_with_port w port p q there (port_keeps w.windows w.sizes w.banks port p q (ap (λ (v : PortValue). v.shares) is) (subst (λ (v : PortValue). IsRunUnderIfAny w.windows w.sizes v.run) (sym is) tt) (world.ports port p there)) world

ended_fits : (w : WorldValue) (port verdict : ℕ) (p q : PortValue) (r : RunValue) (new : List BankValue) (status : Status) (reply : List ℕ) (place : Place) → OwnStaysPaired → OthersStayPaired → IsWorld w → slice_get w.ports port ≡ Some p → r.place ≡ place
    → EndsAt place w.banks new (record p { run = None }) q (judged_with port verdict r) status reply → IsWorld (record w { banks = new; ports = slice_set w.ports port q })
ended_fits w port verdict p q r new status reply (places.Bank k) own others world there at end =
    rw (end.banks_are, end.port_is) (world_fits w _ port p _ world there (bank_fits w port verdict k p r end.bank own others world there at end.there))
ended_fits w port verdict p q r new status reply places.Staging own others world there at end =
    rw end.banks_are (staging_fits w port p q world there end.port_is)
ended_fits w port verdict p q r new status reply places.LoadResult own others world there at end =
    rw end.banks_are (staging_fits w port p q world there end.port_is)
ended_fits w port verdict p q r new status reply places.Control own others world there at end = absurd end

-- how the judged command of that port ended
pub ends_at : (old new : List BankValue) (port verdict : ℕ) (p q : PortValue) (r : RunValue) (status : Status) (reply : List ℕ) → p.run ≡ Some r → HasPortFinished old new port verdict p q p.run status reply
    → EndsAt r.place old new (record p { run = None }) q (judged_with port verdict r) status reply
ends_at old new port verdict p q r status reply is finished =
    subst (λ (run : Option RunValue). HasPortFinished old new port verdict p q run status reply) is finished

pub finished_fits : (w : WorldValue) (port verdict : ℕ) (p q : PortValue) (r : RunValue) (new : List BankValue) (status : Status) (reply : List ℕ) → OwnStaysPaired → OthersStayPaired → IsWorld w → slice_get w.ports port ≡ Some p
    → EndsAt r.place w.banks new (record p { run = None }) q (judged_with port verdict r) status reply → IsWorld (record w { banks = new; ports = slice_set w.ports port q })
finished_fits w port verdict p q r new status reply own others world there end =
    ended_fits w port verdict p q r new status reply r.place own others world there refl end
