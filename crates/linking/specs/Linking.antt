-- What came over a link, what the target made of it, and what left.
use Rattle.std.specs.Prelude.{◌≡◌, ◌≢◌, ◌⊎◌, ◌≤◌, ℕ, Bool, true, false, length, List, [], ◌∷◌, ◌++◌, take}
use Rattle.frames.specs.declared.received.Received.{Received}
use Rattle.frames.specs.Reading.{Reading}
use Rattle.frames.specs.Runs.{EndsUnpacked}
use Rattle.frames.specs.Streams.{reading_after, received_in}
use Rattle.linking.specs.declared.link.LinkEnd.{LinkEnd}
use Rattle.linking.specs.declared.link.LinkEnd.TheVariants.{Unread, Unsent, Unreported, NoMemory}

-- Between two states of a link: bytes that came, and none at its end. Or bytes that left, or a text that was reported,
-- none of it held back. Or bytes or a text that could not leave or be reported.
abbrev pub Moves : Type 0 → Type 1
Moves L = L → List ℕ → L → Type 0

-- Between two states of a target: the bytes and the text that were due for what came with a frame. If nothing was due
-- there are none.
abbrev pub Serves : Type 0 → Type 1
Serves N = N → Received → (reply text : List ℕ) → N → Type 0

-- between two states of a target: it had no memory for what came with a frame
abbrev pub Refuses : Type 0 → Type 1
Refuses N = N → Received → N → Type 0

-- between two states of a link: no bytes could be read
abbrev pub Fails : Type 0 → Type 1
Fails L = L → L → Type 0

-- what was due was moved, if anything was
abbrev pub IsMoved : {L : Type 0} → Moves L → List ℕ → (start stop : L) → Type 0
IsMoved moved [] start stop = stop ≡ start
IsMoved moved (byte ∷ bytes) start stop = moved start (byte ∷ bytes) stop

-- What came with a frame was served, the reply that was due left, and then the text was reported.
pub record AnswersFrame {N L : Type 0} (served : Serves N) (sent reported : Moves L) (received : Received) (before after_ : N) (start stop : L) : Type 0
  where
    pub reply : List ℕ
    pub text : List ℕ
    pub serves : served before received reply text after_
    pub between : L
    pub left : IsMoved sent reply start between
    pub said : IsMoved reported text between stop

-- all that came was answered in turn, each on the target that those before left
abbrev pub AnswersAll : {N L : Type 0} → Serves N → (sent reported : Moves L) → List Received → (before after_ : N) (start stop : L) → Type 0
AnswersAll served sent reported [] before after_ start stop = (after_ ≡ before) × (stop ≡ start)
AnswersAll {N} {L} served sent reported (first ∷ others) before after_ start stop =
    (next : N) × (between : L) × AnswersFrame served sent reported first before next start between
    × AnswersAll served sent reported others next after_ between stop

-- these bytes, one at least, came at once, what came with them was answered in turn, and then this was read
pub record AnswersChunk {N L : Type 0} (served : Serves N) (received sent reported : Moves L) (bytes : List ℕ) (start at : Reading) (before after_ : N) (from to : L) : Type 0
  where
    pub some : bytes ≢ []
    pub heard : L
    pub bytes_received : received from bytes heard
    pub read : at ≡ reading_after start bytes
    pub answered : AnswersAll served sent reported (received_in start bytes) before after_ heard to

-- no more bytes came, or some did, and what came with them was answered
abbrev pub Exchanges : {N L : Type 0} → Serves N → (received sent reported : Moves L) → (more : Bool) → (start at : Reading) (before after_ : N) (from to : L) → Type 0
Exchanges served received sent reported false start at before after_ from to = (at ≡ start) × (after_ ≡ before) × received from [] to
Exchanges served received sent reported true start at before after_ from to =
    (bytes : List ℕ) × AnswersChunk served received sent reported bytes start at before after_ from to

-- bytes came in turn, and what was due for them was sent and reported before others were asked for
abbrev pub Links : {N L : Type 0} → Serves N → (received sent reported : Moves L) → List (List ℕ) → (start at : Reading) (before after_ : N) (from to : L) → Type 0
Links served received sent reported [] start at before after_ from to = (at ≡ start) × (after_ ≡ before) × (to ≡ from)
Links {N} {L} served received sent reported (bytes ∷ chunks) start at before after_ from to =
    (read : Reading) × (next : N) × (between : L)
    × AnswersChunk served received sent reported bytes start read before next from between
    × Links served received sent reported chunks read at next after_ between to

-- how many times bytes are asked for: no link gets there
abbrev pub most_chunks : ℕ
most_chunks = 18446744073709551615

-- A whole link. After its bytes no more came, or they came more often than is counted.
pub record IsWholeLink {N L : Type 0} (served : Serves N) (received sent reported : Moves L) (start at : Reading) (before after_ : N) (from to : L) : Type 0
  where
    pub chunks : List (List ℕ)
    pub last : L
    pub links : Links served received sent reported chunks start at before after_ from last
    pub ended : received last [] to ⊎ ((to ≡ last) × (length chunks ≡ most_chunks))

-- ---- where a link is cut off

-- what came with a frame was served, and the reply that was due could not be sent
pub record StopsAtReply {N L : Type 0} (served : Serves N) (unsent : Moves L) (received : Received) (before after_ : N) (start stop : L) : Type 0
  where
    pub reply : List ℕ
    pub text : List ℕ
    pub serves : served before received reply text after_
    pub stopped : unsent start reply stop

-- What came with a frame was served, the reply that was due left, and the text could not be reported.
pub record StopsAtText {N L : Type 0} (served : Serves N) (sent unreported : Moves L) (received : Received) (before after_ : N) (start stop : L) : Type 0
  where
    pub reply : List ℕ
    pub text : List ℕ
    pub serves : served before received reply text after_
    pub between : L
    pub left : IsMoved sent reply start between
    pub stopped : unreported between text stop

-- what came with a frame was not answered to its end, for that reason
abbrev pub StopsAt : {N L : Type 0} → Serves N → Refuses N → (sent reported unsent unreported : Moves L) → LinkEnd → Received → (before after_ : N) (start stop : L) → Type 0
StopsAt served unserved sent reported unsent unreported Unread received before after_ start stop = ⊥
StopsAt served unserved sent reported unsent unreported Unsent received before after_ start stop =
    StopsAtReply served unsent received before after_ start stop
StopsAt served unserved sent reported unsent unreported Unreported received before after_ start stop =
    StopsAtText served sent unreported received before after_ start stop
StopsAt served unserved sent reported unsent unreported NoMemory received before after_ start stop =
    unserved before received after_ × (stop ≡ start)

-- That many of the bytes were taken, something came with the last of them, and it was not answered to its end.
pub record StopsAnswering {N L : Type 0} (served : Serves N) (unserved : Refuses N) (sent reported unsent unreported : Moves L) (why : LinkEnd) (bytes : List ℕ) (start at : Reading) (before after_ : N) (from to : L) : Type 0
  where
    pub count : ℕ
    pub few : count ≤ length bytes
    pub received : Received
    pub brought : received_in start (take count bytes) ≡ received ∷ []
    pub read : at ≡ reading_after start (take count bytes)
    pub stopped : StopsAt served unserved sent reported unsent unreported why received before after_ from to

-- a packet ended with some of the bytes, and there was no memory for it
pub record StopsReading {N L : Type 0} (why : LinkEnd) (bytes : List ℕ) (start at : Reading) (before after_ : N) (from to : L) : Type 0
  where
    pub refused : why ≡ NoMemory
    pub ended : EndsUnpacked start bytes at
    pub target : after_ ≡ before
    pub link : to ≡ from

-- the next frame that ends with some of the bytes was not answered to its end
abbrev pub StopsNext : {N L : Type 0} → Serves N → Refuses N → (sent reported unsent unreported : Moves L) → LinkEnd → (bytes : List ℕ) → (start at : Reading) (before after_ : N) (from to : L) → Type 0
StopsNext served unserved sent reported unsent unreported why bytes start at before after_ from to =
    StopsAnswering served unserved sent reported unsent unreported why bytes start at before after_ from to
    ⊎ StopsReading why bytes start at before after_ from to

-- some bytes were taken, what came with them was answered in turn, and the next frame was not answered to its end
pub record StopsIn {N L : Type 0} (served : Serves N) (unserved : Refuses N) (sent reported unsent unreported : Moves L) (why : LinkEnd) (bytes : List ℕ) (start at : Reading) (before after_ : N) (from to : L) : Type 0
  where
    pub done : List ℕ
    pub rest : List ℕ
    pub cut : done ++ rest ≡ bytes
    pub target : N
    pub link : L
    pub answered : AnswersAll served sent reported (received_in start done) before target from link
    pub stopped : StopsNext served unserved sent reported unsent unreported why rest (reading_after start done) at target after_ link to

-- bytes came at once, and in them the link was cut off
pub record StopsInChunk {N L : Type 0} (served : Serves N) (unserved : Refuses N) (received sent reported unsent unreported : Moves L) (why : LinkEnd) (start at : Reading) (before after_ : N) (from to : L) : Type 0
  where
    pub bytes : List ℕ
    pub heard : L
    pub bytes_received : received from bytes heard
    pub stopped : StopsIn served unserved sent reported unsent unreported why bytes start at before after_ heard to

-- no bytes could be read
pub record StopsListening {N L : Type 0} (unread : Fails L) (why : LinkEnd) (start at : Reading) (before after_ : N) (from to : L) : Type 0
  where
    pub refused : why ≡ Unread
    pub read : at ≡ start
    pub target : after_ ≡ before
    pub failed : unread from to

-- no bytes could be read, or some came, and in them the link was cut off
abbrev pub StopsExchange : {N L : Type 0} → Serves N → Refuses N → (received sent reported : Moves L) → Fails L → (unsent unreported : Moves L) → LinkEnd → (start at : Reading) (before after_ : N) (from to : L) → Type 0
StopsExchange served unserved received sent reported unread unsent unreported why start at before after_ from to =
    StopsListening unread why start at before after_ from to
    ⊎ StopsInChunk served unserved received sent reported unsent unreported why start at before after_ from to

-- A link that was cut off. Bytes came in turn, and what was due for them was sent and reported. Then the link stopped
-- there.
pub record IsCutOff {N L : Type 0} (served : Serves N) (unserved : Refuses N) (received sent reported : Moves L) (unread : Fails L) (unsent unreported : Moves L) (why : LinkEnd) (start at : Reading) (before after_ : N) (from to : L) : Type 0
  where
    pub chunks : List (List ℕ)
    pub read : Reading
    pub target : N
    pub link : L
    pub links : Links served received sent reported chunks start read before target from link
    pub stopped : StopsExchange served unserved received sent reported unread unsent unreported why read at target after_ link to
