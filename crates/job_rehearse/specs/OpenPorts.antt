-- Whose loads a program lets pass, and at which ports of a node.
use Rattle.std.specs.Prelude.{◌≡◌, ◌+◌, ◌&&◌, ◌==◌, not, ℕ, zero, suc, Bool, if◌then◌else◌, List, [], ◌∷◌, ◌++◌, codes, decimal, length, slice_index_or}
use Rattle.bver.specs.Justified.{AcceptedValue}
use Rattle.job_rehearse.specs.Askers.{asker_text}
use Rattle.job_rehearse.specs.Judging.{IsPassing}
use Rattle.job_rehearse.specs.declared.askers.LoadInitiator.{LoadInitiator}
use Rattle.job_rehearse.specs.declared.loaders.LoadSender.{LoadSender}
use Rattle.job_rehearse.specs.declared.open_ports.LoadedNode.{LoadedNode}
use Rattle.job_rehearse.specs.declared.passing.Passing.{Passing}
use Rattle.job_rehearse.specs.declared.passing.Passing.TheVariants.{Always, UntilSpent, OnceSpent, Never}

-- the asker, at a port of the node
abbrev pub loader_at : LoadedNode → LoadInitiator → (port : ℕ) → LoadSender
loader_at node asker port =
    record { port = port; initiator = asker.initiator.byte; key = asker.key.byte; target = node.target }

-- the asker of a place
abbrev pub IsAskerAt : List LoadInitiator → (place : ℕ) → LoadInitiator → Type 0
IsAskerAt askers place asker = (other : LoadInitiator) → slice_index_or askers place other ≡ asker

-- ---- answers

-- the number of an answer
abbrev pub answer_number_of : Passing → ℕ
answer_number_of Always = 0
answer_number_of UntilSpent = 1
answer_number_of OnceSpent = 2
answer_number_of Never = 3

-- an answer is that one
abbrev pub is_kind : (kind passing : Passing) → Bool
is_kind kind passing = answer_number_of kind == answer_number_of passing

-- what a line says of when loads pass
abbrev pub kind_words : Passing → List ℕ
kind_words Always = []
kind_words UntilSpent = codes " until quotas are spent"
kind_words OnceSpent = codes " only after quotas are spent"
kind_words Never = []

-- the answer at a port; after the last it is none of those that are printed
abbrev pub port_answer_at : (answers : List Passing) → (port : ℕ) → Passing
port_answer_at answers port = slice_index_or answers port Never

-- the answer at a port is that one
abbrev pub is_port_open : (answers : List Passing) → (kind : Passing) → (port : ℕ) → Bool
is_port_open answers kind port = is_kind kind (port_answer_at answers port)

-- ---- runs of ports

-- the port is the last of a run of ports with that answer: it has it, and the next does not
abbrev pub ends_run : (answers : List Passing) → (kind : Passing) → (port : ℕ) → Bool
ends_run answers kind port = is_port_open answers kind port && not (is_port_open answers kind (port + 1))

-- the first of the ports with that answer right before a port; if the one before it has another, the port itself
abbrev pub first_of_run : (answers : List Passing) → (kind : Passing) → (port : ℕ) → ℕ
first_of_run answers kind zero = zero
first_of_run answers kind (suc port) = if is_port_open answers kind port then first_of_run answers kind port else suc port

-- the line of a run of ports, with its line feed (10)
abbrev pub run_line : (lead words more : List ℕ) → (first last : ℕ) → List ℕ
run_line lead words more first last =
    lead ++ codes " by port " ++ decimal first ++ codes "-" ++ decimal last ++ words ++ more ++ 10 ∷ []

-- after a text the line of the run that ends at a port, if one does
abbrev pub with_end : (front : List ℕ) → (answers : List Passing) → (kind : Passing) → (lead words : List ℕ)
    → (first port : ℕ) → List ℕ
with_end front answers kind lead words first port =
    if ends_run answers kind port then front ++ run_line lead words (kind_words kind) first port else front

-- after a text a line for each run of ports with that answer that ends below a number
abbrev pub with_runs : (front : List ℕ) → (answers : List Passing) → (kind : Passing) → (lead words : List ℕ)
    → (count : ℕ) → List ℕ
with_runs front answers kind lead words zero = front
with_runs front answers kind lead words (suc port) =
    with_end (with_runs front answers kind lead words port) answers kind lead words (first_of_run answers kind port) port

-- after a text the runs of each answer except the last: of ports at which both loads pass, only the first, and only the
-- second
abbrev pub with_kinds : (front : List ℕ) → (answers : List Passing) → (lead words : List ℕ) → (count : ℕ) → List ℕ
with_kinds front answers lead words count =
    with_runs
    (with_runs (with_runs front answers Always lead words count) answers UntilSpent lead words count)
    answers OnceSpent lead words count

module _ (judge : AcceptedValue) (image : List ℕ) (node : LoadedNode) where
  -- whether the program lets the asker's load of the image pass at a port
  abbrev pub PassesAt : LoadInitiator → (port : ℕ) → Passing → Type 0
  PassesAt asker port passing = IsPassing judge (loader_at node asker port) image passing

  -- the same for each port below a number, in order
  abbrev pub AreOpen : LoadInitiator → (count : ℕ) → (answers : List Passing) → Type 0
  AreOpen asker zero answers = answers ≡ []
  AreOpen asker (suc port) answers =
      (front : List Passing) × (last : Passing) × AreOpen asker port front × PassesAt asker port last
      × (answers ≡ front ++ last ∷ [])

module _ (judge : AcceptedValue) (image : List ℕ) (node : LoadedNode) (lead : List ℕ) where
  -- after a text a line for each run of the node's ports at which the program lets the asker's load pass, in one way
  pub record PrintsAsker (asker : LoadInitiator) (before after : List ℕ) : Type 0 where
    pub answers : List Passing
    pub are_open : AreOpen judge image node asker node.ports answers
    pub lines : after ≡ with_kinds before answers lead (asker_text asker) node.ports

  -- the same of the asker of a place
  pub record PrintsPlace (askers : List LoadInitiator) (place : ℕ) (before after : List ℕ) : Type 0 where
    pub asker : LoadInitiator
    pub is_at : IsAskerAt askers place asker
    pub reports : PrintsAsker asker before after

  -- the same of the askers of the first `count` places in turn
  abbrev pub PrintsFirstAskers : List LoadInitiator → (count : ℕ) → (before after : List ℕ) → Type 0
  PrintsFirstAskers askers zero before after = after ≡ before
  PrintsFirstAskers askers (suc place) before after =
      (between : List ℕ) × PrintsFirstAskers askers place before between × PrintsPlace askers place between after

  -- the text is the lines of all askers: whose load is in none of them does not pass
  abbrev pub PrintsAskers : List LoadInitiator → (text : List ℕ) → Type 0
  PrintsAskers askers text = PrintsFirstAskers askers (length askers) [] text
