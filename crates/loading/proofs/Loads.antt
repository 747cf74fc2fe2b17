-- The packets of a load leave the verdict on its image.
use Rattle.std.proofs.Common.{◌≡◌, ◌<◌, ◌≤◌, ◌+◌, ◌++◌, ◌∷◌, [], ℕ, List, true, length, set, take, Some, None, refl, sym, ap, subst, ◌∙◌, arith, append_assoc}
use Rattle.std.specs.Prelude.{map, slice_get}
use Rattle.std.proofs.lemmas.List.{length-map, set-get_or}
use Rattle.std.proofs.lemmas.Option.{get_or_from_slice_get, same_Some, slice_get_past, slice_get_within}
use Rattle.spw.specs.Cargo.{Cargo}
use Rattle.rmap.specs.declared.kind.Kind.TheVariants.{Read, Write}
use Rattle.rmap.specs.declared.places.Place.{Place}
use Rattle.rmap.specs.declared.places.Place.TheVariants.{LoadResult, Control}
use Rattle.rmap.specs.declared.status.Status.TheVariants.{Success}
use Rattle.rmap.specs.Command.{CommandValue, command_of}
use Rattle.rmap.specs.Laws.{CommandsAreKept}
use Rattle.rmap.specs.Reply.{reply_of, with_crc}
use Rattle.rmap.specs.Windows.{WindowsValue}
use Rattle.bank.specs.Answer.{answer}
use Rattle.bank.specs.Effect.{memory_at}
use Rattle.bank.specs.Records.{answer_on, extent_of}
use Rattle.initiator.specs.Laws.{MadeCommandsAreRead}
use Rattle.initiator.specs.LoadPackets.{LoadPacketsAreTaken}
use Rattle.initiator.specs.Loads.{part_count, part_of, stage_request}
use Rattle.node_programs.specs.declared.publishes.Publish.{Publish}
use Rattle.node_programs.specs.Laws.{IsSetByNext}
use Rattle.node_programs.specs.Staged.{Staged}
use Rattle.node_parts.specs.Passes.{PassValue}
use Rattle.node_parts.specs.Stagings.{answer_at_place, after_place}
use Rattle.single_node.specs.Nodes.{IsSingleNode, SingleNodeValue, staging_in}
use Rattle.loading.specs.Sent.{AreOfLoad, IsSent}
use Rattle.loading.specs.Served.{LetsPassInTurn}
use Rattle.loading.specs.Reported.{IsLoadReported, IsLoadVerdict, LoadsAreReported}
use Rattle.loading.proofs.Bytes.{all_read, answered}
use Rattle.loading.proofs.Commands.{IsControl, IsTaken, is_control, is_read}
use Rattle.loading.proofs.Passed.{EndsWell, passed}
use Rattle.loading.proofs.Staged.{AreStaged, HasParts, IsAt, begins_with, one_more, own, parts_staged}
use Rattle.loading.proofs.Verdicts.{verdict_of_load}

-- no bank of a node has the number of the boot window
no_bank : (node : SingleNodeValue) (port : ℕ) (holder : PassValue) → IsSingleNode node → slice_get node.passes port ≡ Some holder → slice_get holder.windows.banks 255 ≡ None
no_bank node port holder is at =
    let few = is.few_banks in
    let count : length (map extent_of node.banks) ≡ length node.banks = length-map node.banks extent_of in
    ap (λ (l : List (ℕ × ℕ)). slice_get l 255) (is.paired.each port holder at).windows
    ∙ slice_get_past (map extent_of node.banks) 255 (omega (arith, few, count))

-- the read of the load result is answered with it, and changes nothing
result_read : (w : WindowsValue) (p : Cargo) (port : ℕ) (h left : PassValue) (now next : SingleNodeValue) (reply : List ℕ) (c : CommandValue) → IsTaken w p c Read LoadResult 65536 8 → length h.staging.load_result ≡ 8 → EndsWell LoadResult c port h left now next reply
    → (reply ≡ reply_of c Success h.staging.load_result) × (left.staging ≡ h.staging) × (left.windows ≡ h.windows) × (next.programs ≡ now.programs)
result_read w p port h left now next reply c is eight ends =
    let judged = ends.judged in
    let found = h.staging.load_result in
    let staged = ends.ended.0.staged in (
      staged.reply
          ∙ ap (λ (place : Place). (answer_at_place place ends.between.staging judged).reply) ends.place_is
          ∙ ap (λ (s : Staged). (answer_on 65536 s.load_result judged).reply) ends.staging
          ∙ ap (λ (x : CommandValue). (answer (memory_at 65536 found) true x judged.verdict).reply) ends.command
          ∙ answered (memory_at 65536 found) c judged.verdict ends.verdict is.right is.is_kind
          ∙ ap (λ (bytes : List ℕ). reply_of c Success bytes) (all_read c found eight is.increment is.address_is is.count_is),
      staged.staging ∙ ap (λ (place : Place). after_place place ends.between.staging judged) ends.place_is ∙ ends.staging,
      ap (λ (x : PassValue). x.windows) ends.ended.0.rest ∙ ends.windows,
      ends.ended.1,
    )

-- the port after the control write
record HasEnded (port slot : ℕ) (image : List ℕ) (holder : PassValue) (before now : SingleNodeValue) : Type 0 where
  pub left : PassValue
  pub node : IsAt port holder before now left
  pub verdict : IsLoadVerdict slot image before.programs now.programs left.staging.load_result
  pub eight : length left.staging.load_result ≡ 8

-- the control write loads what is staged
control_ends : IsSetByNext → (port slot : ℕ) (image : List ℕ) (holder : PassValue) (before now next : SingleNodeValue) (p : Cargo) (reply : List ℕ) (c : CommandValue) → length image ≤ 16384 → (has : HasParts port image holder before (part_count image) now)
    → IsControl holder.windows slot image p c → (left : PassValue) → next.passes ≡ set now.passes port left → EndsWell Control c port has.left left now next reply → HasEnded port slot image holder before next
control_ends next_law port slot image holder before now next p reply c short has is left passes ends =
    let begins : take (length image) ends.between.staging.bytes ≡ image = ap (λ (s : Staged). take (length image) s.bytes) ends.staging ∙ begins_with port image holder before now short has in
    let found = verdict_of_load next_law slot image ends.between left now.programs next.programs ends.judged ends.status c ends.some short ends.command ends.verdict is.taken.right is.body begins ends.ended.ended in
    record {
      left = left;
      node = one_more port holder before now next has.left left has.node passes ends.banks (found.windows ∙ ends.windows);
      verdict = subst (λ (l : List Publish). IsLoadVerdict slot image l next.programs left.staging.load_result) has.programs found.verdict;
      eight = found.eight;
    }

-- what is so of a load whose last two replies are these
reported_by : (port slot : ℕ) (image : List ℕ) (holder left : PassValue) (before last after : SingleNodeValue) (read : Cargo) (replies earlier later : List (List ℕ)) (first second : List ℕ) → IsAt port holder before last left → IsLoadVerdict slot image before.programs last.programs left.staging.load_result → after ≡ last
    → replies ≡ earlier ++ later → later ≡ first ∷ second ∷ [] → second ≡ reply_of (command_of read) Success left.staging.load_result → IsLoadReported port slot image read before after replies
reported_by port slot image holder left before last after read replies earlier later first second node verdict is replies_are same answer_is = record {
  holder = left;
  passes = ap (λ (n : SingleNodeValue). n.passes) is ∙ node.passes;
  verdict = subst (λ (n : SingleNodeValue). IsLoadVerdict slot image before.programs n.programs left.staging.load_result) (sym is) verdict;
  earlier = earlier ++ first ∷ [];
  answered = replies_are ∙ ap (λ (l : List (List ℕ)). earlier ++ l) same
      ∙ sym (append_assoc earlier (first ∷ []) (second ∷ [])) ∙ ap (λ (l : List ℕ). earlier ++ first ∷ [] ++ l ∷ []) answer_is;
  banks = ap (λ (n : SingleNodeValue). n.banks) is ∙ node.banks;
}

-- the verdict stays if what was published and the load result do
verdict_stays : (slot : ℕ) (image : List ℕ) (old new next : List Publish) (result left : List ℕ) → next ≡ new → left ≡ result → IsLoadVerdict slot image old new result → IsLoadVerdict slot image old next left
verdict_stays slot image old new next result left same kept verdict =
    subst (λ (l : List Publish). IsLoadVerdict slot image old l left) (sym same) (subst (λ (r : List ℕ). IsLoadVerdict slot image old new r) (sym kept) verdict)

-- the control write and the read after it
ends_reported : CommandsAreKept → MadeCommandsAreRead → LoadPacketsAreTaken → IsSetByNext → (transaction port slot : ℕ) (image : List ℕ) (holder : PassValue) (before after : SingleNodeValue) (packets : List Cargo) (replies : List (List ℕ))
    → slice_get holder.windows.banks 255 ≡ None → length image ≤ 16384 → port < length before.passes → (load : AreOfLoad holder.windows.node_address transaction slot image packets)
    → (done : AreStaged port image holder before (load.control ∷ load.read ∷ []) after replies) → (later : List (List ℕ)) → done.later ≡ later
    → LetsPassInTurn port (load.control ∷ load.read ∷ []) done.now after later → IsLoadReported port slot image load.read before after replies
ends_reported keeps reads law next transaction port slot image holder before after packets replies none short below load done [] same turn = absurd turn
ends_reported keeps reads law next transaction port slot image holder before after packets replies none short below load done (first ∷ []) same turn = absurd turn.2
ends_reported keeps reads law next transaction port slot image holder before after packets replies none short below load done (first ∷ second ∷ third ∷ more) same turn = absurd turn.2.2
ends_reported keeps reads law next transaction port slot image holder before after packets replies none short below load done (first ∷ second ∷ []) same turn =
    let w = holder.windows in
    let has = done.has in
    let control = is_control keeps reads law w transaction slot image load.control none load.is_control in
    let control_taken = subst (λ (x : WindowsValue). IsTaken x load.control control.0 Write Control 65536 4) (sym has.node.windows) control.1.taken in
    let loads = passed load.control port done.now turn.0 has.left first control.0 Write Control 65536 4 (own port holder before done.now has.left below has.node) control_taken tt turn.1 in
    let ended = control_ends next port slot image holder before done.now turn.0 load.control first control.0 short has control.1 loads.left loads.passes loads.ends in
    let read = is_read keeps reads law w transaction image load.read none load.is_read in
    let read_taken = subst (λ (x : WindowsValue). IsTaken x load.read read.0 Read LoadResult 65536 8) (sym ended.node.windows) read.1 in
    let last = turn.2.0 in
    let reports = passed load.read port turn.0 last ended.left second read.0 Read LoadResult 65536 8 (own port holder before turn.0 ended.left below ended.node) read_taken tt turn.2.1 in
    let reported = result_read ended.left.windows load.read port ended.left reports.left turn.0 last second read.0 read_taken ended.eight reports.ends in
    let node = one_more port holder before turn.0 last ended.left reports.left ended.node reports.passes reports.ends.banks reported.2 in
    let result : reports.left.staging.load_result ≡ ended.left.staging.load_result = ap (λ (s : Staged). s.load_result) reported.1 in
    let verdict = verdict_stays slot image before.programs turn.0.programs last.programs ended.left.staging.load_result reports.left.staging.load_result reported.3 result ended.verdict in
    let answer_is : second ≡ reply_of (command_of load.read) Success reports.left.staging.load_result =
    reported.0 ∙ ap (λ (x : CommandValue). reply_of x Success ended.left.staging.load_result) (sym read.1.command) ∙ ap (λ (r : List ℕ). reply_of (command_of load.read) Success r) (sym result) in
    reported_by port slot image holder reports.left before last after load.read replies done.earlier done.later first second node verdict turn.2.2 done.replies_are same answer_is

-- a node before the first packet of a load
at_first : (port : ℕ) (image : List ℕ) (holder : PassValue) (before : SingleNodeValue) → slice_get before.passes port ≡ Some holder → length holder.staging.bytes ≡ 16384 → HasParts port image holder before 0 before
at_first port image holder before at size = record {
  left = holder;
  node = record {
    passes = sym (ap (λ (h : PassValue). set before.passes port h) (sym (get_or_from_slice_get before.passes port holder holder at)) ∙ set-get_or before.passes port holder);
    banks = refl;
    windows = refl;
  };
  programs = refl;
  size = size;
  staged = λ i below within. let none : ⊥ = omega (arith, below) in absurd none;
}

-- all of it, of a node whose port stages that many bytes
pub loads_are_reported : CommandsAreKept → MadeCommandsAreRead → LoadPacketsAreTaken → IsSetByNext → (port : ℕ) (before : SingleNodeValue) (staging : Staged) → IsSingleNode before → staging_in (slice_get before.passes port) ≡ Some staging → length staging.bytes ≡ 16384 → LoadsAreReported port before
loads_are_reported keeps reads law next port before staging is own_staging size holder transaction slot image packets after replies at short load turn =
    let staged : holder.staging ≡ staging = same_Some holder.staging staging (ap staging_in (sym at) ∙ own_staging) in
    let whole : length holder.staging.bytes ≡ 16384 = ap (λ (s : Staged). length s.bytes) staged ∙ size in
    let below : port < length before.passes = slice_get_within before.passes port holder at in
    let none = no_bank before port holder is at in
    let following = load.control ∷ load.read ∷ [] in
    let all : LetsPassInTurn port (load.parts ++ following) before after replies = subst (λ (l : List Cargo). LetsPassInTurn port l before after replies) load.in_order turn in
    let done = parts_staged keeps reads law transaction port image holder before following after none short below load.parts 0 before replies
    (λ number p found. let place : number ≡ 0 + number = omega arith in subst (λ (n : ℕ). IsSent holder.windows.node_address (stage_request transaction (part_of image n) n) (with_crc (part_of image n)) p) place (load.are_parts.each number p found))
    (omega (arith, load.are_parts.count)) (at_first port image holder before at whole) all in
    ends_reported keeps reads law next transaction port slot image holder before after packets replies none short below load done done.later refl done.turn
