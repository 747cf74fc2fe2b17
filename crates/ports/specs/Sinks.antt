-- What a sink does with a reply.
use Rattle.std.specs.Prelude.{◌≡◌, ℕ, ◌+◌, List, [], ◌∷◌, ◌++◌, map, min}

-- a reply, after the number of the port at which it was due
abbrev pub SentReply : Type 0
SentReply = ℕ × List ℕ

-- these replies, due at that port
abbrev pub sent_at : ℕ → List (List ℕ) → List SentReply
sent_at port replies = map (λ reply. (port, reply)) replies

-- the replies, without their ports
abbrev pub replies_in : List SentReply → List (List ℕ)
replies_in sent = map (λ s. s.1) sent

-- the replies that a sink has taken, in order, each with its port, and how many it has not taken
pub record SinkValue : Type 0 where
  pub sent : List SentReply
  pub failed : ℕ

-- a count stays at 2^64 - 1
abbrev pub cut : ℕ → ℕ
cut n = min n 18446744073709551615

-- the reply was taken, of that port
pub record IsReplySent (sent sent' : List SentReply) (failed failed' : ℕ) (port : ℕ) (reply : List ℕ) : Type 0 where
  pub taken : sent' ≡ sent ++ (port, reply) ∷ []
  pub failures : failed' ≡ failed

-- the reply was not taken, and counts
pub record IsReplyUnsent (sent sent' : List SentReply) (failed failed' : ℕ) : Type 0 where
  pub same : sent' ≡ sent
  pub failures : failed' ≡ cut (failed + 1)
