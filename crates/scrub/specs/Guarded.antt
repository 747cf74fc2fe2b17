-- A node whose programs are scrubbed.
use Rattle.std.specs.Prelude.{◌≡◌, ◌≢◌, ◌<◌, ◌≤◌, ◌^◌, ◌⊎◌, ◌==◌, ◌&&◌, not, if◌then◌else◌, ℕ, Bool, false, true, List, [], length, Option, None, Some, slice_get, slice_set}
use Rattle.bver.specs.Justified.{AcceptedValue}
use Rattle.node_parts.specs.declared.served.Served.TheVariants.{Unread}
use Rattle.node_programs.specs.Published.{program_at, sizes_of}
use Rattle.rmap.specs.Command.{command_of}
use Rattle.rmap.specs.Reply.{reply_of}
use Rattle.rmap.specs.declared.status.Status.TheVariants.{GeneralError}
use Rattle.single_node.specs.Nodes.{SingleNodeValue, port_slot_in, with_program}
use Rattle.single_node.specs.Serving.{ServesInto}
use Rattle.spw.specs.Rooms.{put_front}
use Rattle.single_node.specs.declared.served.ServedDetail.{ServedDetail}
use Rattle.spw.specs.Cargo.{Cargo}
use Rattle.scrub.specs.declared.answer.ServedAnswer.{ServedAnswer}
use Rattle.scrub.specs.declared.guarded.GuardedNode.{GuardedNode}
use Rattle.scrub.specs.declared.guard.ScrubFindings.{ScrubFindings}
use Rattle.scrub.specs.declared.guard.Guard.{Guard}
use Rattle.scrub.specs.declared.guard.Health.{Health}
use Rattle.scrub.specs.declared.guard.Health.TheVariants.{Whole, Mended, Unmended, Withdrawn}
use Rattle.scrub.specs.declared.guard.Scrubbed.{Scrubbed}
use Rattle.scrub.specs.declared.guard.SlotsFound.{SlotsFound}
use Rattle.scrub.specs.declared.kept.SlotSums.{SlotSums}
use Rattle.scrub.specs.Counting.{agrees, counted, counting_of, is_due, is_on, renewed}
use Rattle.scrub.specs.Damage.{sizes_sum}
use Rattle.scrub.specs.declared.counting.Counting.{Counting}
use Rattle.scrub.specs.declared.made.MendFault.{MendFault}
use Rattle.scrub.specs.declared.made.MendFault.TheVariants.{Memory, Image, Full}
use Rattle.scrub.specs.Kept.{AreFresh, Follow, fresh_sums, has_sum, is_withheld, withdrawn_sums}
use Rattle.scrub.specs.Mending.{IsLentFor, IsUnlent}
use Rattle.scrub.specs.Sums.{IsSummed}

-- a node, with what is kept of its programs, if they are scrubbed
abbrev pub GuardedValue : Type 0
GuardedValue = GuardedNode

-- a node beside what is kept of its programs
pub record Watched : Type 0 where
  pub node : SingleNodeValue
  pub guard : Guard

-- the two of them
abbrev pub beside : Guard → SingleNodeValue → Watched
beside guard node = record { node = node; guard = guard }

-- what is kept, with that of a slot
abbrev pub with_sums : Guard → (slot : ℕ) → SlotSums → Guard
with_sums guard slot s = record guard { sums = slice_set guard.sums slot s }

-- the node with that kept of a slot
abbrev pub keeping : Watched → (slot : ℕ) → SlotSums → Watched
keeping g slot s = beside (with_sums g.guard slot s) g.node

-- the node with one publish more, of a program that has that sum
abbrev pub with_made : Watched → (slot : ℕ) → AcceptedValue → (sum : ℕ) → Watched
with_made g slot program sum =
    beside (with_sums g.guard slot (fresh_sums sum)) (with_program g.node slot program)

-- ---- a scrub

-- the operations of the program that judges at the slot have that sum
pub record HasSumAt (g : Watched) (slot sum : ℕ) : Type 0 where
  pub program : AcceptedValue
  pub shown : program_at g.node.programs slot ≡ Some program
  pub summed : IsSummed program sum

-- the sum of the slot's program is none of those that are kept
pub record IsDamaged (g : Watched) (slot : ℕ) (kept : SlotSums) : Type 0 where
  pub sum : ℕ
  pub has : HasSumAt g slot sum
  pub differs : has_sum kept sum ≡ false

-- the slot's last program was published for it once more, and that sum is kept of it
pub record IsPublishedAs (slot sum : ℕ) (before after : Watched) : Type 0 where
  pub program : AcceptedValue
  pub shown : program_at before.node.programs slot ≡ Some program
  pub after_is : after ≡ with_made before slot program sum

-- The same, if it could be published. Else nothing changed, since no more programs can be.
abbrev pub PublishesAs : (is_published : Bool) → (slot sum : ℕ) → (before after : Watched) → Type 0
PublishesAs true slot sum before after = IsPublishedAs slot sum before after
PublishesAs false slot sum before after = (after ≡ before) × (2 ^ 32 ≤ length before.node.programs)

-- the slot's last program, whose operations were made again from its own image, has a sum that is kept, and was
-- published once more
pub record IsRenewed (slot : ℕ) (kept : SlotSums) (before after : Watched) : Type 0 where
  pub sum : ℕ
  pub has : HasSumAt before slot sum
  pub agrees : has_sum kept sum ≡ true
  pub again : IsPublishedAs slot sum before after

-- the program of the image that is lent has a sum that is kept, and was published for the slot
pub record IsLentTo (slot : ℕ) (image : List ℕ) (kept : SlotSums) (before after : Watched) : Type 0 where
  pub made : AcceptedValue
  pub sum : ℕ
  pub lent : IsLentFor (sizes_of before.node.programs) image kept made sum
  pub after_is : after ≡ with_made before slot made sum

-- the one or the other
abbrev pub IsRemade : (slot : ℕ) → (image : List ℕ) → SlotSums → (before after : Watched) → Type 0
IsRemade slot image kept before after = IsRenewed slot kept before after ⊎ IsLentTo slot image kept before after

-- Why the slot's program was not mended. Memory was refused to what reads the image that is lent. Or that image gives
-- no program with a sum that is kept. Or no more programs can be published.
abbrev pub IsUnmended : (image : List ℕ) → SlotSums → Watched → MendFault → Type 0
IsUnmended image kept g Memory = image ≢ []
IsUnmended image kept g Image = IsUnlent (sizes_of g.node.programs) image kept Image
IsUnmended image kept g Full = 2 ^ 32 ≤ length g.node.programs

-- how a slot is found if its program was not mended
abbrev pub health_by : MendFault → Health
health_by Memory = Unmended
health_by Image = Withdrawn
health_by Full = Withdrawn

-- The program is as it was published. Nothing changed, except that both sums are now its own, and that it may judge.
pub record StaysWhole (slot : ℕ) (before after : Watched) : Type 0 where
  pub kept : SlotSums
  pub at : slice_get before.guard.sums slot ≡ Some kept
  pub sum : ℕ
  pub has : HasSumAt before slot sum
  pub agrees : has_sum kept sum ≡ true
  pub after_is : after ≡ keeping before slot (fresh_sums sum)

-- the program was found damaged, and nothing changed
pub record IsFoundDamaged (slot : ℕ) (before after : Watched) : Type 0 where
  pub kept : SlotSums
  pub at : slice_get before.guard.sums slot ≡ Some kept
  pub damaged : IsDamaged before slot kept
  pub same : after ≡ before

-- what a look at a slot finds, whether it was withdrawn before or not
abbrev pub LooksAt : (whole : Bool) → (slot : ℕ) → (before after : Watched) → Type 0
LooksAt true slot before after = StaysWhole slot before after
LooksAt false slot before after = IsFoundDamaged slot before after

-- the program was made again
pub record IsMended (slot : ℕ) (image : List ℕ) (before after : Watched) : Type 0 where
  pub kept : SlotSums
  pub at : slice_get before.guard.sums slot ≡ Some kept
  pub remade : IsRemade slot image kept before after

-- The program was not mended. Its slot is withdrawn, and nothing else changed.
pub record IsWithdrawn (health : Health) (slot : ℕ) (image : List ℕ) (before after : Watched) : Type 0 where
  pub kept : SlotSums
  pub at : slice_get before.guard.sums slot ≡ Some kept
  pub fault : MendFault
  pub reason : IsUnmended image kept before fault
  pub health_is : health ≡ health_by fault
  pub after_is : after ≡ keeping before slot (withdrawn_sums kept)

-- what becomes of a slot that was found damaged
abbrev pub Repairs : Health → (slot : ℕ) → (image : List ℕ) → (before after : Watched) → Type 0
Repairs Whole slot image before after = ⊥
Repairs Mended slot image before after = IsMended slot image before after
Repairs Withdrawn slot image before after = IsWithdrawn Withdrawn slot image before after
Repairs Unmended slot image before after = IsWithdrawn Unmended slot image before after

-- The same if it was found damaged. If the slot was found whole, nothing changed.
abbrev pub RepairsUnless : (whole : Bool) → Health → (slot : ℕ) → (image : List ℕ) → (before after : Watched) → Type 0
RepairsUnless true health slot image before after = (health ≡ Whole) × (after ≡ before)
RepairsUnless false health slot image before after = Repairs health slot image before after

-- a look at the four slots, one after the other
pub record LooksAtSlots (seen : SlotsFound) (before after : Watched) : Type 0 where
  pub one : Watched
  pub two : Watched
  pub three : Watched
  pub reads : LooksAt seen.reads 0 before one
  pub writes : LooksAt seen.writes 1 one two
  pub rmws : LooksAt seen.rmws 2 two three
  pub window : LooksAt seen.window 3 three after

-- A scrub of the four slots: a look at all of them. Then each that was found damaged is repaired, one after the other.
pub record Scrubs (reported : Scrubbed) (image : List ℕ) (before after : Watched) : Type 0 where
  pub seen : SlotsFound
  pub between : Watched
  pub one : Watched
  pub two : Watched
  pub three : Watched
  pub looks : LooksAtSlots seen before between
  pub reads : RepairsUnless seen.reads reported.reads 0 image between one
  pub writes : RepairsUnless seen.writes reported.writes 1 image one two
  pub rmws : RepairsUnless seen.rmws reported.rmws 2 image two three
  pub window : RepairsUnless seen.window reported.window 3 image three after

-- How the program of a slot was found. For a slot that does not exist it means nothing.
abbrev pub health_at : Scrubbed → (slot : ℕ) → Health
health_at reported slot =
    if slot == 0 then reported.reads else (if slot == 1 then reported.writes else (if slot == 2 then reported.rmws else reported.window))

-- the slot was found damaged, and so all slots were scrubbed
pub record ScrubsAll (health : Health) (slot : ℕ) (before after : Watched) : Type 0 where
  pub between : Watched
  pub reported : Scrubbed
  pub found : IsFoundDamaged slot before between
  pub scrubs : Scrubs reported [] between after
  pub health_is : health ≡ health_at reported slot

-- What a scrub of a slot does, whether it was withdrawn before or not. Its program is whole, or all slots are scrubbed.
abbrev pub ScrubsSlot : Health → (slot : ℕ) → (before after : Watched) → Type 0
ScrubsSlot health slot before after =
    ((health ≡ Whole) × StaysWhole slot before after) ⊎ ScrubsAll health slot before after

-- ---- publishes

-- what is kept of the node's programs, each of which may judge, and of its sizes, with a scrub before each packet of
-- that many
pub record IsGuardOf (node : SingleNodeValue) (each : ℕ) (guard : Guard) : Type 0 where
  pub fresh : (slot : ℕ) → slot < 4 → AreFresh node.programs slot (slice_get guard.sums slot)
  pub sizes_are : guard.sizes ≡ sizes_sum node
  pub counting_is : guard.counting ≡ counting_of each each

-- What is kept at first. With a number it is such a guard, and without one nothing.
abbrev pub BeginsGuard : (each : Option ℕ) → SingleNodeValue → Option Guard → Type 0
BeginsGuard None node guard = guard ≡ None
BeginsGuard (Some each) node guard = (own : Guard) × (guard ≡ Some own) × IsGuardOf node each own

-- the node, with that
pub record IsGuarded (each : Option ℕ) (node : SingleNodeValue) (g : GuardedValue) : Type 0 where
  pub node_is : g.node ≡ node
  pub begins : BeginsGuard each node g.guard

-- the program was published for the slot, which may judge, and its sum is kept
pub record IsInstalled (slot : ℕ) (program : AcceptedValue) (before after : Watched) : Type 0 where
  pub sum : ℕ
  pub summed : IsSummed program sum
  pub after_is : after ≡ with_made before slot program sum

-- The same of a node of which maybe nothing is kept. If so, the program is published, and nothing is kept.
abbrev pub InstallsOn : (old new : Option Guard) → (slot : ℕ) → AcceptedValue → (before after : SingleNodeValue) → Type 0
InstallsOn None new slot program before after = (new ≡ None) × (after ≡ with_program before slot program)
InstallsOn (Some old) new slot program before after =
    (own : Guard) × (new ≡ Some own) × IsInstalled slot program (beside old before) (beside own after)

abbrev pub Installs : (slot : ℕ) → AcceptedValue → (before after : GuardedValue) → Type 0
Installs slot program before after = InstallsOn before.guard after.guard slot program before.node after.node

-- ---- a scrub of all

-- This is kept of the node's programs. If nothing was kept, it is taken now.
abbrev pub HasGuard : Option Guard → SingleNodeValue → (own : Guard) → Type 0
HasGuard None node own = IsGuardOf node 0 own
HasGuard (Some guard) node own = own ≡ guard

-- the four slots were scrubbed, by what is kept of them
pub record ScrubsGuarded (reported : Scrubbed) (image : List ℕ) (before after : GuardedValue) : Type 0 where
  pub old : Guard
  pub new : Guard
  pub has : HasGuard before.guard before.node old
  pub scrubs : Scrubs reported image (beside old before.node) (beside new after.node)
  pub left : after.guard ≡ Some new

-- the sizes have the sum that was kept of them, if one was
abbrev pub has_sizes : Option Guard → SingleNodeValue → Bool
has_sizes None node = true
has_sizes (Some guard) node = sizes_sum node == guard.sizes

-- Packets have scrubs before them, and the sizes are others than they were. So no packet may be served.
abbrev pub is_damaged : Option Guard → SingleNodeValue → Bool
is_damaged None node = false
is_damaged (Some guard) node = is_on guard.counting && not (sizes_sum node == guard.sizes)

-- the numbers of scrubs agree with their complements, if there are some
abbrev pub has_counting : Option Guard → Bool
has_counting None = true
has_counting (Some guard) = agrees guard.counting

-- ---- a scrub before each packet of a number

-- what is kept, with these numbers
abbrev pub with_counting : Guard → Counting → Guard
with_counting guard counting = record guard { counting = counting }

-- what is kept, with a scrub before each `each`-th packet
abbrev pub scrubbing_each : Guard → (each : ℕ) → Guard
scrubbing_each guard each = with_counting guard (counting_of each each)

-- the same with the node
abbrev pub counting_on : Watched → Counting → Watched
counting_on g counting = beside (with_counting g.guard counting) g.node

-- from now on there is a scrub before each `each`-th packet
pub record SetsEach (each : ℕ) (before after : GuardedValue) : Type 0 where
  pub old : Guard
  pub has : HasGuard before.guard before.node old
  pub node_is : after.node ≡ before.node
  pub guard_is : after.guard ≡ Some (scrubbing_each old each)

-- a program judges the packet at that slot, which was scrubbed, and that was found
pub record FindsAt (slot : ℕ) (found : Option ScrubFindings) (before after : Watched) : Type 0 where
  pub health : Health
  pub found_is : found ≡ Some (record { slot = slot; health = health })
  pub scrubs : ScrubsSlot health slot before after

-- nothing was scrubbed
pub record FindsNothing (found : Option ScrubFindings) (before after : Watched) : Type 0 where
  pub found_is : found ≡ None
  pub same : after ≡ before

-- If no scrub is due the packet is counted. If one is due and a program judges the packet, the slot of that program is
-- scrubbed. If none judges it, the scrub stays due.
abbrev pub ScrubsFirst : (due : Bool) → (slot : Option ℕ) → (found : Option ScrubFindings) → (before after : Watched) → Type 0
ScrubsFirst false slot found before after = FindsNothing found (counting_on before (counted before.guard.counting)) after
ScrubsFirst true None found before after = FindsNothing found before after
ScrubsFirst true (Some slot) found before after = FindsAt slot found (counting_on before (renewed before.guard.counting)) after

-- a scrub before a packet at a port, if one is due
abbrev pub ScrubsBefore : (port : ℕ) → Cargo → Option ScrubFindings → (before after : Watched) → Type 0
ScrubsBefore port packet found before after =
    ScrubsFirst (is_due before.guard.counting) (port_slot_in (slice_get before.node.passes port) packet) found before after

-- ---- packets

-- what the node reports of a command that no program judges
abbrev pub unread : ServedDetail
unread = record { served = Unread; generation = 0; verdict = 0 }

-- The command of the packet is for a slot that is withdrawn. The answer is a general error, and nothing changed.
pub record AnswersUnread (reported : ServedDetail) (size : ℕ) (packet : Cargo) (before after : Watched) (room left : List ℕ) :
    Type 0 where
  pub reported_is : reported ≡ unread
  pub left_is : left ≡ put_front room (reply_of (command_of packet) GeneralError [])
  pub size_is : size ≡ length (reply_of (command_of packet) GeneralError [])
  pub after_is : after ≡ before

-- what is kept, with these sums
abbrev pub with_all : Guard → List SlotSums → Guard
with_all guard sums = record guard { sums = sums }

-- the packet is served as the node serves it, and the sums follow what was published
pub record AnswersRead (reported : ServedDetail) (size port : ℕ) (packet : Cargo) (before after : Watched) (room left : List ℕ) :
    Type 0 where
  pub serves : ServesInto reported size port packet before.node after.node room left
  pub follow : Follow before.node.programs after.node.programs before.guard.sums after.guard.sums
  pub rest : after.guard ≡ with_all before.guard after.guard.sums

-- by whether the slot of its command is withdrawn
abbrev pub AnswersBy : (withheld : Bool) → (reported : ServedDetail) → (size port : ℕ) → Cargo → (before after : Watched)
    → (room left : List ℕ) → Type 0
AnswersBy true reported size port packet before after room left = AnswersUnread reported size packet before after room left
AnswersBy false reported size port packet before after room left = AnswersRead reported size port packet before after room left

-- what becomes of a packet at a port of a node whose programs are kept, after a scrub if one is due
pub record AnswersWatched (answer : ServedAnswer) (port : ℕ) (packet : Cargo) (before after : Watched) (room left : List ℕ) :
    Type 0 where
  pub between : Watched
  pub scrubs : ScrubsBefore port packet answer.found before between
  pub answers : AnswersBy (is_withheld between.guard.sums (port_slot_in (slice_get between.node.passes port) packet)) answer.reported
      answer.size port packet between after room left

-- What becomes of it by whether the programs are kept. Without a guard the node serves it, and nothing is scrubbed.
abbrev pub AnswersOn : (old new : Option Guard) → ServedAnswer → (port : ℕ) → Cargo → (before after : SingleNodeValue)
    → (room left : List ℕ) → Type 0
AnswersOn None new answer port packet before after room left =
    (new ≡ None) × (answer.found ≡ None) × ServesInto answer.reported answer.size port packet before after room left
AnswersOn (Some old) new answer port packet before after room left =
    (own : Guard) × (new ≡ Some own) × AnswersWatched answer port packet (beside old before) (beside own after) room left

-- what becomes of a packet at a port of a node whose programs may be scrubbed
abbrev pub ServesGuarded : ServedAnswer → (port : ℕ) → Cargo → (before after : GuardedValue) → (room left : List ℕ) → Type 0
ServesGuarded answer port packet before after room left =
    AnswersOn before.guard after.guard answer port packet before.node after.node room left
