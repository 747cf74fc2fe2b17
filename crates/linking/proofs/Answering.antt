-- What came is answered in turn.
use Rattle.std.proofs.Common.{◌≡◌, ◌+◌, ◌-◌, ℕ, Bool, true, false, length, arith, inl, inr, List, [], ◌∷◌, ◌++◌, take, drop, refl, sym, ap, subst, ◌∙◌, append_assoc, append-nil}
use Rattle.std.proofs.lemmas.List.{length-append, length-drop, take_all, take-append-drop}
use Rattle.frames.specs.declared.received.Received.{Received}
use Rattle.frames.specs.Reading.{Reading}
use Rattle.frames.specs.Streams.{FramesAreRead, reading_after, received_in}
use Rattle.linking.specs.declared.link.LinkEnd.{LinkEnd}
use Rattle.linking.specs.Linking.{AnswersAll, AnswersChunk, Exchanges, Fails, IsCutOff, IsWholeLink, Links, Moves, Refuses, Serves, StopsExchange, StopsIn, StopsNext, most_chunks}

-- what came with others, after what came before
all_joined : {N L : Type 0} (served : Serves N) (sent reported : Moves L) (first others : List Received) (a b c : N) (s t u : L)
    → AnswersAll served sent reported first a b s t → AnswersAll served sent reported others b c t u → AnswersAll served sent reported (first ++ others) a c s u
all_joined {N} {L} served sent reported [] others a b c s t u all more =
    let placed : AnswersAll served sent reported others a c t u = subst (λ (x : N). AnswersAll served sent reported others x c t u) all.0 more in
    subst (λ (x : L). AnswersAll served sent reported others a c x u) all.1 placed
all_joined served sent reported (received ∷ first) others a b c s t u all more =
    (all.0, all.1, all.2, all_joined served sent reported first others all.0 b c all.1 t u all.3 more)

-- Some bytes were taken, and what came with them was answered.
pub record AreTaken {N L : Type 0} (served : Serves N) (sent reported : Moves L) (start at : Reading) (bytes rest : List ℕ) (a b : N) (s t : L) : Type 0 where
  pub done : List ℕ
  pub cut : done ++ rest ≡ bytes
  pub read : at ≡ reading_after start done
  pub answered : AnswersAll served sent reported (received_in start done) a b s t

pub none_taken : {N L : Type 0} (served : Serves N) (sent reported : Moves L) (start : Reading) (bytes : List ℕ) (a : N) (s : L) → AreTaken served sent reported start start bytes bytes a a s s
none_taken served sent reported start bytes a s = record { done = []; cut = refl; read = refl; answered = (refl, refl) }

-- what is after that many bytes
left_is : (count : ℕ) (rest : List ℕ) → take (length rest - count) (drop count rest) ≡ drop count rest
left_is count rest = take_all (length rest - count) (drop count rest) (omega (arith, length-drop count rest))

-- that many bytes more
pub more_taken : {N L : Type 0} (parts : FramesAreRead) (served : Serves N) (sent reported : Moves L) (start at next : Reading) (bytes rest left : List ℕ) (count : ℕ) (a b c : N) (s t u : L)
    → AreTaken served sent reported start at bytes rest a b s t → next ≡ reading_after at (take count rest)
    → AnswersAll served sent reported (received_in at (take count rest)) b c t u → left ≡ take (length rest - count) (drop count rest)
    → AreTaken served sent reported start next bytes left a c s u
more_taken {N} {L} parts served sent reported start at next bytes rest left count a b c s t u taken stepped all is =
    let some = take count rest in
    let following : left ≡ drop count rest = is ∙ left_is count rest in
    let received : received_in at some ≡ received_in (reading_after start taken.done) some = ap (λ (r : Reading). received_in r some) taken.read in
    let placed : AnswersAll served sent reported (received_in (reading_after start taken.done) some) b c t u = subst (λ (l : List Received). AnswersAll served sent reported l b c t u) received all in
    let joined = all_joined served sent reported (received_in start taken.done) (received_in (reading_after start taken.done) some) a b c s t u taken.answered placed in
    record {
      done = taken.done ++ some;
      cut = append_assoc taken.done some left ∙ ap (λ (l : List ℕ). taken.done ++ (some ++ l)) following ∙ ap (λ (l : List ℕ). taken.done ++ l) (take-append-drop count rest) ∙ taken.cut;
      read = stepped ∙ ap (λ (r : Reading). reading_after r some) taken.read ∙ sym (parts.parts start taken.done some);
      answered = subst (λ (l : List Received). AnswersAll served sent reported l a c s u) (sym (parts.received start taken.done some)) joined;
    }

all_done : (done rest bytes : List ℕ) → done ++ rest ≡ bytes → rest ≡ [] → done ≡ bytes
all_done done rest bytes cut none = sym (append-nil done) ∙ ap (λ l. done ++ l) (sym none) ∙ cut

-- no byte is left
pub taken_read : {N L : Type 0} (served : Serves N) (sent reported : Moves L) (start at : Reading) (bytes rest : List ℕ) (a b : N) (s t : L)
    → AreTaken served sent reported start at bytes rest a b s t → rest ≡ [] → at ≡ reading_after start bytes
taken_read served sent reported start at bytes rest a b s t taken none = taken.read ∙ ap (reading_after start) (all_done taken.done rest bytes taken.cut none)

pub taken_answered : {N L : Type 0} (served : Serves N) (sent reported : Moves L) (start at : Reading) (bytes rest : List ℕ) (a b : N) (s t : L)
    → AreTaken served sent reported start at bytes rest a b s t → rest ≡ [] → AnswersAll served sent reported (received_in start bytes) a b s t
taken_answered served sent reported start at bytes rest a b s t taken none =
    subst (λ (l : List ℕ). AnswersAll served sent reported (received_in start l) a b s t) (all_done taken.done rest bytes taken.cut none) taken.answered

-- the next frame stops
pub stops_in : {N L : Type 0} (served : Serves N) (unserved : Refuses N) (sent reported unsent unreported : Moves L) (why : LinkEnd) (start at stop : Reading) (bytes rest : List ℕ) (a b c : N) (s t u : L)
    → AreTaken served sent reported start at bytes rest a b s t → StopsNext served unserved sent reported unsent unreported why rest at stop b c t u
    → StopsIn served unserved sent reported unsent unreported why bytes start stop a c s u
stops_in {N} {L} served unserved sent reported unsent unreported why start at stop bytes rest a b c s t u taken stopped =
    record {
      done = taken.done;
      rest = rest;
      cut = taken.cut;
      target = b;
      link = t;
      answered = taken.answered;
      stopped = subst (λ (r : Reading). StopsNext served unserved sent reported unsent unreported why rest r stop b c t u) taken.read stopped;
    }

-- one chunk more
links_more : {N L : Type 0} (served : Serves N) (received sent reported : Moves L) (chunks : List (List ℕ)) (bytes : List ℕ) (p q r : Reading) (a b c : N) (s t u : L)
    → Links served received sent reported chunks p q a b s t → AnswersChunk served received sent reported bytes q r b c t u → Links served received sent reported (chunks ++ bytes ∷ []) p r a c s u
links_more {N} {L} served received sent reported [] bytes p q r a b c s t u all one =
    let first : AnswersChunk served received sent reported bytes p r b c t u = subst (λ (x : Reading). AnswersChunk served received sent reported bytes x r b c t u) all.0 one in
    let placed : AnswersChunk served received sent reported bytes p r a c t u = subst (λ (x : N). AnswersChunk served received sent reported bytes p r x c t u) all.1 first in
    let begun : AnswersChunk served received sent reported bytes p r a c s u = subst (λ (x : L). AnswersChunk served received sent reported bytes p r a c x u) all.2 placed in
    (r, c, u, begun, (refl, refl, refl))
links_more served received sent reported (first ∷ chunks) bytes p q r a b c s t u all one =
    (all.0, all.1, all.2, all.3, links_more served received sent reported chunks bytes all.0 q r all.1 b c all.2 t u all.4 one)

-- That many chunks came and were answered.
pub record IsUnderWay {N L : Type 0} (served : Serves N) (received sent reported : Moves L) (count : ℕ) (p q : Reading) (a b : N) (s t : L) : Type 0 where
  pub chunks : List (List ℕ)
  pub counted : count ≡ length chunks
  pub links : Links served received sent reported chunks p q a b s t

pub none_yet : {N L : Type 0} (served : Serves N) (received sent reported : Moves L) (p : Reading) (a : N) (s : L) → IsUnderWay served received sent reported 0 p p a a s s
none_yet served received sent reported p a s = record { chunks = []; counted = refl; links = (refl, refl, refl) }

pub goes_on : {N L : Type 0} (served : Serves N) (received sent reported : Moves L) (count : ℕ) (p q r : Reading) (a b c : N) (s t u : L) (more : Bool)
    → IsUnderWay served received sent reported count p q a b s t → Exchanges served received sent reported more q r b c t u → more ≡ true
    → IsUnderWay served received sent reported (count + 1) p r a c s u
goes_on {N} {L} served received sent reported count p q r a b c s t u more way exchanged is =
    let one = subst (λ (m : Bool). Exchanges served received sent reported m q r b c t u) is exchanged in
    record {
      chunks = way.chunks ++ one.0 ∷ [];
      counted = omega (arith, way.counted, length-append way.chunks (one.0 ∷ []));
      links = links_more served received sent reported way.chunks one.0 p q r a b c s t u way.links one.1;
    }

pub ends : {N L : Type 0} (served : Serves N) (received sent reported : Moves L) (count : ℕ) (p q r : Reading) (a b c : N) (s t u : L) (more : Bool)
    → IsUnderWay served received sent reported count p q a b s t → Exchanges served received sent reported more q r b c t u → more ≡ false
    → IsWholeLink served received sent reported p r a c s u
ends {N} {L} served received sent reported count p q r a b c s t u more way exchanged is =
    let none = subst (λ (m : Bool). Exchanges served received sent reported m q r b c t u) is exchanged in
    let read : Links served received sent reported way.chunks p r a b s t = subst (λ (x : Reading). Links served received sent reported way.chunks p x a b s t) (sym none.0) way.links in
    record {
      chunks = way.chunks;
      last = t;
      links = subst (λ (x : N). Links served received sent reported way.chunks p r a x s t) (sym none.1) read;
      ended = inl none.2;
    }

pub counted_out : {N L : Type 0} (served : Serves N) (received sent reported : Moves L) (count : ℕ) (p q : Reading) (a b : N) (s t : L)
    → IsUnderWay served received sent reported count p q a b s t → count ≡ most_chunks → IsWholeLink served received sent reported p q a b s t
counted_out served received sent reported count p q a b s t way most =
    record { chunks = way.chunks; last = t; links = way.links; ended = inr (refl, omega (arith, way.counted, most)) }

-- the link is cut off after that many chunks
pub cut_off : {N L : Type 0} (served : Serves N) (unserved : Refuses N) (received sent reported : Moves L) (unread : Fails L) (unsent unreported : Moves L) (why : LinkEnd) (count : ℕ) (p q r : Reading) (a b c : N) (s t u : L)
    → IsUnderWay served received sent reported count p q a b s t → StopsExchange served unserved received sent reported unread unsent unreported why q r b c t u
    → IsCutOff served unserved received sent reported unread unsent unreported why p r a c s u
cut_off served unserved received sent reported unread unsent unreported why count p q r a b c s t u way stopped =
    record { chunks = way.chunks; read = q; target = b; link = t; links = way.links; stopped = stopped }
