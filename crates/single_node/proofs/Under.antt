-- The windows of ports: packets leave them.
use Rattle.std.proofs.Common.{◌≡◌, ℕ, List, Option, None, Some, set, refl, ap, ◌∙◌, inl, inr}
use Rattle.std.specs.Prelude.{slice_get}
use Rattle.std.proofs.lemmas.Bool.{cases_eq}
use Rattle.spw.specs.Cargo.{Cargo}
use Rattle.bank.specs.Answer.{judged_line}
use Rattle.bank.specs.Records.{JudgedValue, ShareValue}
use Rattle.node_programs.specs.declared.publishes.Publish.{Publish}
use Rattle.node_parts.specs.Applied.{with_share}
use Rattle.node_parts.specs.Loaded.{EndsAs}
use Rattle.node_parts.specs.Passes.{PassValue}
use Rattle.node_parts.specs.Served.{EndsAtWindow, PartsValue}
use Rattle.node_parts.specs.declared.served.Served.{Served}
use Rattle.node_parts.specs.declared.served.Served.TheVariants.{Stopped, Unread, Done, Window}
use Rattle.rmap.specs.Command.{command_of}
use Rattle.rmap.specs.Windows.{WindowsValue}
use Rattle.rmap.specs.declared.places.Place.{Place}
use Rattle.rmap.specs.declared.places.Place.TheVariants.{Bank, Staging, LoadResult, Control}
use Rattle.rmap.specs.declared.status.Status.{Status}
use Rattle.lemmas.proofs.Places.{at_other, at_written}
use Rattle.single_node.specs.Judging.{ServesAt}
use Rattle.single_node.specs.Nodes.{AreUnder}

with_share_windows : (h : PassValue) (place : Place) (s : ShareValue) → (with_share h place s).windows ≡ h.windows
with_share_windows h (Bank k) s = refl
with_share_windows h Staging s = refl
with_share_windows h LoadResult s = refl
with_share_windows h Control s = refl

load_windows : (line : Option Status) (h after : PassValue) (old new : List Publish) (j : JudgedValue) (status : Status) → EndsAs line h after old new j status → after.windows ≡ h.windows
load_windows (Some s) h after old new j status end = ap (λ (x : PassValue). x.windows) end.1
load_windows None h after old new j status end = elim end [
  | inl loaded ↦ ap (λ (x : PassValue). x.windows) loaded.holder_after
  | inr refused ↦ ap (λ (x : PassValue). x.windows) refused.holder_after
]

window_windows : (place : Place) (h after : PassValue) (old new : List Publish) (j : JudgedValue) (status : Status) (reply : List ℕ) → EndsAtWindow place h after old new j status reply → after.windows ≡ h.windows
window_windows (Bank k) h after old new j status reply end = absurd end
window_windows Staging h after old new j status reply end = ap (λ (x : PassValue). x.windows) end.0.rest
window_windows LoadResult h after old new j status reply end = ap (λ (x : PassValue). x.windows) end.0.rest
window_windows Control h after old new j status reply end = load_windows (judged_line (command_of j.packet) j.verdict) h after old new j status end.ended

-- a packet leaves the windows of its port
pub served_windows : (served : Served) (g v : ℕ) (p : Cargo) (words following : List (List ℕ)) (old new : PartsValue) (h after : PassValue) (reply : List ℕ) → ServesAt served g v p words following old new h after reply → after.windows ≡ h.windows
served_windows (Stopped stop) g v p words following old new h after reply s = ap (λ (x : PassValue). x.windows) s.untouched.holder_after
served_windows Unread g v p words following old new h after reply s = absurd s
served_windows (Done result) g v p words following old new h after reply s =
    ap (λ (x : PassValue). x.windows) s.ended.applied.shares ∙ with_share_windows s.between s.judged.place _ ∙ ap (λ (x : PassValue). x.windows) s.last.judgement.asked
served_windows (Window status) g v p words following old new h after reply s =
    window_windows s.judged.place s.between after old.programs new.programs s.judged status reply s.ended.1 ∙ ap (λ (x : PassValue). x.windows) s.last.judgement.asked

-- and so those of all ports
pub under_after : (w : WindowsValue) (passes : List PassValue) (place : ℕ) (h after : PassValue) → AreUnder w passes → slice_get passes place ≡ Some h → after.windows ≡ h.windows → AreUnder w (set passes place after)
under_after w passes place h after under at same = λ k x found.
    elim (cases_eq k place) [
      | inl here ↦ ap (λ (y : PassValue). y.windows) (at_written passes place k h after x at here found) ∙ same ∙ under place h at
      | inr other ↦ under k x (at_other passes place k after x other found)
    ]
