-- The headline in threads: each command that threads did was judged once.
use Rattle.std.specs.Prelude.{◌<◌, ℕ, List, All}
use Rattle.spw.specs.Cargo.{Cargo}
use Rattle.annals.specs.declared.deed.HistoryEntry.{HistoryEntry}
use Rattle.sched.specs.Headline.{AreJudgedOnce, IsNode}
use Rattle.sched.specs.Looking.{Node}
use Rattle.lawful.specs.Together.{Account, AreServedTogether, HaveLawfulHistory}

-- each packet that a port of the node served has only bytes
abbrev pub HaveBytes : Node → (accounts : ℕ → Account) → Type 0
HaveBytes n accounts =
    (port : ℕ) → port < n.ports → All (λ (p : Cargo). All (λ byte. byte < 256) p.bytes) (accounts port).packets

-- At the fresh ports that threads served side by side each command that was done was judged once, in one history of the
-- node. The program that was published for its slot when it was taken judged it.
abbrev pub ThreadsJudgeOnce : Type 0
ThreadsJudgeOnce =
    (n : Node) (accounts : ℕ → Account) (whole : List HistoryEntry) → IsNode n → HaveBytes n accounts
    → AreServedTogether n accounts whole → (it : HaveLawfulHistory n accounts whole) × AreJudgedOnce n it.history
