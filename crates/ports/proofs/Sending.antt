-- A reply that is handed to the sink.
use Rattle.std.proofs.Common.{◌≡◌, ℕ, false, eqb, List, [], ◌∷◌, length, sym, refl, ap, ◌∙◌, arith, inr}
use Rattle.std.proofs.lemmas.List.{append-nil}
use Rattle.ports.specs.Sinks.{SentReply, IsReplyUnsent, replies_in, sent_at}
use Rattle.ports.specs.Worked.{HasTaken}
use Rattle.ports.specs.Due.{due_of}

pub lost_one : (sent sent' : List SentReply) (failed failed' port : ℕ) (reply : List ℕ) → eqb (length reply) 0 ≡ false → IsReplyUnsent sent sent' failed failed' → HasTaken sent sent' failed failed' (sent_at port (due_of (reply ∷ []))) 1
lost_one sent sent' failed failed' port [] some u = absurd cc
lost_one sent sent' failed failed' port (byte ∷ bytes) some u = record {
  kept = [];
  thinned = inr (0, refl, (refl, refl));
  taken = u.same ∙ sym (append-nil sent);
  failures = let counts = u.failures in omega (arith, counts);
}

-- the replies of a port without its number
pub replies_of_sent : (port : ℕ) (replies : List (List ℕ)) → replies_in (sent_at port replies) ≡ replies
replies_of_sent port [] = refl
replies_of_sent port (reply ∷ replies) = ap (λ l. reply ∷ l) (replies_of_sent port replies)
