-- What a load leaves at a node of one thread, by its image.
use Rattle.std.specs.Prelude.{◌≡◌, ◌≤◌, ◌⊎◌, ℕ, List, [], ◌∷◌, ◌++◌, length, slice_get, slice_set, Some}
use Rattle.spw.specs.Cargo.{Cargo}
use Rattle.rmap.specs.declared.boot.TheConstants.{STAGING_SIZE}
use Rattle.rmap.specs.declared.status.Status.TheVariants.{Success}
use Rattle.rmap.specs.Command.{command_of}
use Rattle.rmap.specs.Reply.{reply_of}
use Rattle.bver.specs.Justified.{AcceptedValue}
use Rattle.node_programs.specs.declared.publishes.Publish.{Publish}
use Rattle.node_programs.specs.Histories.{longer_history}
use Rattle.node_programs.specs.Published.{judging_program, sizes_of}
use Rattle.node_parts.specs.declared.refusal.LoadRefusal.{LoadRefusal}
use Rattle.node_parts.specs.Loads.{published_result, refused_result}
use Rattle.node_parts.specs.Outcomes.{IsLoad, IsLoadRefusal, Published}
use Rattle.node_parts.specs.Passes.{PassValue}
use Rattle.single_node.specs.Nodes.{SingleNodeValue}
use Rattle.loading.specs.Asked.{asked_for}
use Rattle.loading.specs.Sent.{AreOfLoad}
use Rattle.loading.specs.Served.{LetsPassInTurn}

-- The image spells a program that is justified for the maps of the node. The list of what was published ends with it,
-- for that slot, and it judges there from then on. The load result has its generation.
pub record IsPublishedLoad (slot : ℕ) (image : List ℕ) (old new : List Publish) (load_result : List ℕ) : Type 0 where
  pub program : AcceptedValue
  pub load : IsLoad (asked_for slot image) image (sizes_of old) (length old) (Published slot program)
  pub extends : new ≡ longer_history old slot program
  pub judges : judging_program new slot ≡ Some (program, length old)
  pub reported : load_result ≡ published_result (length old)

-- The image was refused, as a load of these bytes is, or for lack of memory. What was published stays, and the load
-- result says why.
pub record IsRefusedAs (slot : ℕ) (image : List ℕ) (old new : List Publish) (load_result : List ℕ) : Type 0 where
  pub refusal : LoadRefusal
  pub refused : IsLoadRefusal (asked_for slot image) image (sizes_of old) (length old) refusal
  pub same : new ≡ old
  pub reported : load_result ≡ refused_result refusal

-- the load result is the verdict on the image
abbrev pub IsLoadVerdict : (slot : ℕ) → (image : List ℕ) → (old new : List Publish) → (load_result : List ℕ) → Type 0
IsLoadVerdict slot image old new load_result =
    IsPublishedLoad slot image old new load_result ⊎ IsRefusedAs slot image old new load_result

-- What a load of the image leaves, of which that packet read the load result. At the port it leaves the verdict on the
-- image, and the last reply answers that packet with it. No other port and no bank changed.
pub record IsLoadReported (port slot : ℕ) (image : List ℕ) (read : Cargo) (before after : SingleNodeValue)
    (replies : List (List ℕ)) : Type 0 where
  pub holder : PassValue
  pub passes : after.passes ≡ slice_set before.passes port holder
  pub verdict : IsLoadVerdict slot image before.programs after.programs holder.staging.load_result
  pub earlier : List (List ℕ)
  pub answered : replies ≡ earlier ++ reply_of (command_of read) Success holder.staging.load_result ∷ []
  pub banks : after.banks ≡ before.banks

-- each load whose packets the node lets pass in turn at that port, if no others come between them
abbrev pub LoadsAreReported : (port : ℕ) → SingleNodeValue → Type 0
LoadsAreReported port before =
    (holder : PassValue) (transaction slot : ℕ) (image : List ℕ) (packets : List Cargo) (after : SingleNodeValue)
    (replies : List (List ℕ)) → slice_get before.passes port ≡ Some holder → length image ≤ STAGING_SIZE
    → (load : AreOfLoad holder.windows.node_address transaction slot image packets)
    → LetsPassInTurn port packets before after replies → IsLoadReported port slot image load.read before after replies
