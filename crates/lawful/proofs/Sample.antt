-- The worked example: it meets the premises of the law, and its history is lawful.
use Rattle.std.proofs.Common.{◌≡◌, ◌==◌, ◌+◌, ◌<◌, ◌≤◌, ◌&&◌, ◌^◌, ℕ, zero, suc, Bool, true, false, cond, List, [], ◌∷◌, ◌++◌, length, Option, Some, None, refl, sym, ap, subst, ◌∙◌, inl, inr, arith}
use Rattle.std.specs.Prelude.{if◌then◌else◌, option_map, slice_get}
use Rattle.std.proofs.lemmas.Bool.{cases_lt}
use Rattle.std.proofs.lemmas.List.{length-replicate}
use mathlib.Core.List.{IsPrefix}
use Rattle.spw.specs.Cargo.{Cargo}
use Rattle.rmap.specs.declared.kind.Kind.{Kind}
use Rattle.rmap.specs.declared.kind.Kind.TheVariants.{Read}
use Rattle.rmap.specs.declared.places.Place.{Place}
use Rattle.rmap.specs.declared.places.Place.TheVariants as places
use Rattle.rmap.specs.declared.status.Status.{Status}
use Rattle.rmap.specs.declared.status.Status.TheVariants.{Success}
use Rattle.rmap.specs.BootRecords.{control_of}
use Rattle.rmap.specs.Command.{CommandValue, command_kind, command_of}
use Rattle.rmap.specs.Windows.{LiesInBank, WindowsValue, lies_inside}
use Rattle.bpf.specs.Laws.{ImagesAreRead}
use Rattle.bpf.specs.Program.{Program}
use Rattle.brun.specs.Runs.{header}
use Rattle.brun.specs.declared.turns.Turn.{Turn}
use Rattle.bank.specs.Admission.{IsPlacedBy}
use Rattle.bank.specs.Answer.{answer, effect_at, is_success, judged_line, status_with}
use Rattle.bank.specs.Effect.{Memory, effect, command_effect_of, memory_at}
use Rattle.bank.specs.Records.{BankValue, EntryValue, IsBank, JudgedValue, after_command, checked_entry, entry_of, first_share, memory_of, replay}
use Rattle.node_programs.specs.Published.{judging_program}
use Rattle.node_programs.specs.Staged.{Staged, staged}
use Rattle.node_parts.specs.declared.config.BankConfig.{BankConfig}
use Rattle.node_parts.specs.Loaded.{EndsAs}
use Rattle.node_parts.specs.Loads.{IsPrepared, published_result}
use Rattle.node_parts.specs.Nodes.{bank_of, first_staging}
use Rattle.node_parts.specs.Outcomes as loads
use Rattle.node_parts.specs.Passes.{PassValue, pass_after}
use Rattle.node_parts.specs.Slots.{slot_of}
use Rattle.node_parts.specs.Stagings.{answer_staged}
use Rattle.node_parts.specs.Steps.{IsJudgement}
use Rattle.annals.specs.declared.deed.Act.TheVariants.{Leaves, Publishes}
use Rattle.annals.specs.declared.deed.Deed.TheVariants.{Shows}
use Rattle.annals.specs.declared.deed.HistoryEntry.{HistoryEntry}
use Rattle.annals.specs.Banks.{entries_of, takes}
use Rattle.annals.specs.Chains.{Due, done_for, instrument}
use Rattle.annals.specs.Publishes.{publishes_chain, publishes_of}
use Rattle.annals.specs.Rule.{showing}
use Rattle.annals.specs.Shown.{AreListed, shown_in}
use Rattle.target.specs.Finished.{IsFinishedAt}
use Rattle.ports.specs.Due.{IsJudgedInRun, IsUnjudged, Standing, Worked, stand}
use Rattle.ports.specs.Due.Deed.{Answered as Replied, Judged}
use Rattle.ports.specs.Laws.{next_number_at}
use Rattle.sched.specs.Agreement.{program_and_generation}
use Rattle.sched.specs.declared.event.Event.TheVariants.{Take, Effect as EffectEvent, Publish as PublishEvent}
use Rattle.sched.specs.declared.event.Outcome.{Outcome}
use Rattle.sched.specs.declared.event.Outcome.TheVariants.{Refused, Answered, Taken, Done}
use Rattle.sched.specs.History.{History, Start, Then, Open, opened, taken}
use Rattle.sched.specs.Lawful.{IsControlled, IsLawfulExceptAnswers, done, effect_at_place, header_outcome, packet_outcome, take_outcome}
use Rattle.sched.specs.Looking.{Node, counted_publish, entered, entries, first_memory, has_entry_room, seen_header_in, published, published_at, published_after_count, publishes, slot_at, slot_of_packet, staged_at, staging, verdict_at, windows_in}
use Rattle.lawful.specs.Alone.{IsFreshPort}
use Rattle.lawful.specs.Happenings.{HappenBy, happened_at, happening}
use Rattle.lawful.specs.Sample.{HasSampleHistory, IsSample, Sample, SampleIsLawful, WrongOnesAreRefused, entry_link, factory_link, factory_publish, sample_first_pass, judged_yes, list_at_first, list_at_load, list_before_entry, load_judging, load_link, load_publish, loaded_alone, loaded_history, opening_link, pass_entered, pass_loaded, pass_staged, read_judging, sample_accounts, sample_bank, sample_history, sample_list, sample_node, sample_staging, stage_judging, staged_history, taken_history, wrong_reply}
use Rattle.lawful.specs.Together.{AreServedTogether, IsBankOfPorts, IsServedBeside}
use Rattle.lawful.proofs.Keeping.{happened_elsewhere, opened_elsewhere}
use Rattle.lawful.proofs.Links.{done_same, none_opens, none_other, none_shows, size_more}
use Rattle.lawful.proofs.Loading.{effect_reported, entries_done, loaded_program, publish_reported}
use Rattle.lawful.proofs.Reporting.{outcome_here}
use Rattle.lemmas.proofs.Prefixes.{prefix_same, prefix_shorter, prefix_whole}

-- ---- small facts

same_some : {A : Type 0} (a b : A) → Some a ≡ Some b → a ≡ b
same_some a b e = cc e

-- a list of which readers never saw too many stays so with one link more
listed_more : (pre : List HistoryEntry) (l : HistoryEntry) → AreListed pre → shown_in (pre ++ l ∷ []) ≤ length (publishes_of (pre ++ l ∷ [])) → AreListed (pre ++ l ∷ [])
listed_more pre l listed few before begins = elim (cases_lt (length pre) (length before)) [
  | inl more ↦
      let size = size_more pre l in
      let all : before ≡ pre ++ l ∷ [] = prefix_whole before (pre ++ l ∷ []) begins (omega (arith, more, size)) in
      subst (λ (ls : List HistoryEntry). shown_in ls ≤ length (publishes_of ls)) (sym all) few
  | inr short ↦ listed before (prefix_shorter before pre (pre ++ l ∷ []) begins (l ∷ [], refl) short)
]

listed_none : AreListed []
listed_none before begins = by before begins
  where
    by : (before : List HistoryEntry) → IsPrefix before [] → shown_in before ≤ length (publishes_of before)
    by [] begins = omega arith
    by (l ∷ ls) begins = absurd (cc (begins.1))

few_seen : (ls : List HistoryEntry) (seen published_count : ℕ) → shown_in ls ≡ seen → length (publishes_of ls) ≡ published_count → seen ≤ published_count → shown_in ls ≤ length (publishes_of ls)
few_seen ls seen published_count a b few = omega (arith, a, b, few)

all_seen : (ls : List HistoryEntry) (count : ℕ) → shown_in ls ≡ count → length (publishes_of ls) ≡ count → length (publishes_of ls) ≤ shown_in ls
all_seen ls count a b = omega (arith, a, b)

two_few : 2 ≤ 32
two_few = omega arith

two_apart : 2 ≡ 0 + 1 → ⊥
two_apart same = absurd (omega (arith, same))

first_there : 0 < 2
first_there = omega arith

second_there : 1 < 2
second_there = omega arith

-- the bank at first
abbrev bank_before : BankValue
bank_before = bank_of 2 sample_bank

is_bank : IsBank bank_before
is_bank =
    let bytes = length-replicate {A = ℕ} 16 0 in
    let counts = length-replicate {A = ℕ} 2 0 in
    record {
      some = omega (arith, bytes);
      few = omega (arith, bytes);
      below = omega (arith, bytes);
      base = refl;
      ports = omega (arith, counts);
      few_ports = omega (arith, counts);
      replayed = refl;
      numbered = λ port below. record { few = omega arith; follow = refl };
    }

-- a read leaves memory as it was
read_keeps : (m : Memory) (c : CommandValue) (status : Status) → command_kind c ≡ Read → (effect_at status m c).memory ≡ m
read_keeps m c status is = by (is_success status)
  where
    by : (b : Bool) → (if b then effect m c else record { memory = m; reply = [] }).memory ≡ m
    by true = ap (λ (k : Kind). (command_effect_of k m c).memory) is
    by false = refl

module _ (images : ImagesAreRead) (x : Sample) (is : IsSample x) where
  abbrev n : Node
  n = sample_node x

  -- ---- port 0

  -- a packet of a port that knows of the factory program was judged by it
  abbrev judged : (h : PassValue) (p : Cargo) (place : Place) → h.programs ≡ factory_publish x ∷ [] → h.windows ≡ windows_in n → IsPlacedBy (windows_in n) p place
      → IsJudgement h (pass_after h (factory_publish x ∷ []) []) p (judged_yes p place h.port)
  judged h p place knows windows lies = record {
    seen = factory_publish x ∷ [];
    program = x.program;
    calls = [];
    taken = record { longer = prefix_same h.programs (factory_publish x ∷ []) (sym knows); shown = refl; accepted = is.justified };
    asked = refl;
    judged_for = record {
      packet = refl;
      placed = subst (λ (w : WindowsValue). IsPlacedBy w p place) (sym windows) lies;
      port_of = refl;
      generation_of = refl;
      verdict = is.runs (header (command_of p).front (command_of p).tail) h.port;
    };
  }

  abbrev stage_first : Standing
  stage_first = stand (sample_first_pass x 0) [] []

  abbrev stage_last : Standing
  stage_last = stand (pass_staged x) [] (list_at_first x)

  abbrev load_last : Standing
  load_last = stand (pass_loaded x) ((publishes_chain, Publishes (0, load_publish x)) ∷ []) (list_at_load x)

  abbrev stage_is : IsJudgedInRun (stage_judging x) x.stage stage_first stage_last
  stage_is = record {
    between = pass_after (sample_first_pass x 0) (factory_publish x ∷ []) [];
    reached = list_at_first x;
    moment = record { at = list_at_first x; after = (list_at_first x, refl); before = ([], refl); seen = refl };
    judgement = judged (sample_first_pass x 0) x.stage places.Staging refl refl is.stage;
    program = refl;
    calls = refl;
    ended = inr (record {
      old = factory_publish x ∷ [];
      new = factory_publish x ∷ [];
      begins = ([], refl);
      result = (answer_staged first_staging (judged_yes x.stage places.Staging 0)).status;
      ended = (record { staged = record { status = refl; staging = refl; reply = refl }; rest = refl }, refl);
      entered = refl;
      asks_for = (refl, refl);
      front = ([], refl);
      moment = λ control. absurd (cc (control));
    });
  }

  load_ends : EndsAs (judged_line (command_of x.load) 0) (pass_after (pass_staged x) (factory_publish x ∷ []) []) (pass_loaded x) (factory_publish x ∷ []) (factory_publish x ∷ load_publish x ∷ []) (judged_yes x.load places.Control 0) Success
  load_ends =
      subst (λ (line : Option Status). EndsAs line (pass_after (pass_staged x) (factory_publish x ∷ []) []) (pass_loaded x) (factory_publish x ∷ []) (factory_publish x ∷ load_publish x ∷ []) (judged_yes x.load places.Control 0) Success) (sym is.load_line)
      (inl (record {
        generation = 1;
        published = record {
          slot = 0;
          program = x.program;
          load = (is.prepared, omega arith);
          extends = refl;
          place = refl;
          reported = ([], refl);
          keeps = (load_publish x ∷ [], refl);
          learnt = refl;
        };
        status = refl;
        holder_after = refl;
      }))

  abbrev load_is : IsJudgedInRun (load_judging x) x.load stage_last load_last
  load_is = record {
    between = pass_after (pass_staged x) (factory_publish x ∷ []) [];
    reached = list_at_first x;
    moment = record { at = list_at_first x; after = ([], refl); before = ([], refl); seen = refl };
    judgement = judged (pass_staged x) x.load places.Control refl refl is.load;
    program = refl;
    calls = refl;
    ended = inr (record {
      old = factory_publish x ∷ [];
      new = factory_publish x ∷ load_publish x ∷ [];
      begins = ([], refl);
      result = Success;
      ended = record { ended = load_ends; reply = refl };
      entered = refl;
      asks_for = (refl, refl);
      front = (load_link x ∷ [], refl);
      moment = λ _. record {
        met = list_at_first x;
        seen = ([], refl);
        published = refl;
        did = refl;
        goes = (load_link x ∷ [], refl);
        publishes = refl;
        does = refl;
      };
    });
  }

  abbrev worked_at_0 : Worked stage_first (x.stage ∷ x.load ∷ []) (Judged (stage_judging x) ∷ Judged (load_judging x) ∷ []) load_last
  worked_at_0 = (stage_last, stage_is, (load_last, load_is, refl))

  number_first : (port k : ℕ) → next_number_at (sample_first_pass x port) k ≡ 0
  number_first port zero = refl
  number_first port (suc k) = refl

  fresh_at : (port : ℕ) → port < 2 → IsFreshPort n (stand (sample_first_pass x port) [] [])
  fresh_at port there = record {
    there = there;
    windows = refl;
    factory = factory_publish x;
    firsts = [];
    programs = refl;
    program = refl;
    firsts_are = refl;
    sizes = refl;
    staging_is = refl;
    shares = refl;
    numbers = number_first port;
  }

  served_at_0 : IsServedBeside n (sample_list x) 0 (sample_accounts x 0)
  served_at_0 = record {
    worked = worked_at_0;
    fresh = fresh_at 0 first_there;
    port_is = refl;
    asked = refl;
    begins = (showing ∷ entry_link x ∷ [], refl);
    did = refl;
    in_full = (
      record { entered = λ bank. absurd (cc (bank)); loads = λ control. absurd (cc (control)) },
      (record { entered = λ bank. absurd (cc (bank)); loads = λ control line none. absurd (cc (none)) }, tt),
    );
  }

  -- ---- port 1

  abbrev read_judged : JudgedValue
  read_judged = judged_yes x.read (places.Bank 0) 1

  abbrev read_between : PassValue
  read_between = pass_after (sample_first_pass x 1) (factory_publish x ∷ []) []

  abbrev read_entry : Due
  read_entry = (0, Leaves (entry_of (first_share 1) read_judged Success))

  abbrev read_last : Standing
  read_last = stand (pass_entered x) (read_entry ∷ []) (sample_list x)

  read_status : (m : Memory) → (answer m true (command_of x.read) 0).status ≡ Success
  read_status m = ap (status_with true) is.read_line

  -- the bank has the bytes of the command
  in_bank : (c : LiesInBank (windows_in n) (command_of x.read) 0) → lies_inside 2684354560 16 (command_of x.read) ≡ true
  in_bank c =
      let same : (2684354560, 16) ≡ c.range = same_some (2684354560, 16) c.range c.window in
      subst (λ (r : ℕ × ℕ). lies_inside r.0 r.1 (command_of x.read) ≡ true) (sym same) c.inside

  bank_takes : takes (record { bank = bank_before; chain = record { number = 0; log = list_before_entry x } }) (first_share 1) read_judged ≡ true
  bank_takes = in_bank (is.read.inside 0 refl)

  memory_left : memory_of (after_command bank_before (first_share 1) read_judged) ≡ (answer (memory_of bank_before) true (command_of x.read) 0).memory
  memory_left =
      let m = memory_of bank_before in
      let kept = read_keeps m (command_of x.read) (status_with true (judged_line (command_of x.read) 0)) is.read_kind in
      ap (λ (y : Memory). memory_at m.first y.bytes) kept ∙ sym kept

  read_finished : IsFinishedAt (record { bank = bank_before; chain = record { number = 0; log = list_before_entry x } }) (record { bank = after_command bank_before (first_share 1) read_judged; chain = record { number = 0; log = sample_list x } })
      (list_at_load x) (sample_list x) read_between (pass_entered x) read_judged (record { status = Success; number = Some 0 }) (read_judging x).reply
  read_finished = record {
    share = record { port = 1; number = 1 };
    shares = refl;
    applied = λ _. record {
      status = sym (read_status (memory_of bank_before));
      memory = memory_left;
      reply_is = refl;
      number = refl;
      bank = refl;
      share_is = refl;
    };
    refused = λ no. absurd (cc (no, bank_takes));
    done = record {
      done = record {
        place = refl;
        last = record { before = list_before_entry x; next = 0; log = refl; seen = (showing ∷ [], refl) };
        status = sym (read_status (memory_of bank_before));
        numbers = refl;
        reply_is = refl;
      };
      published = (load_publish x ∷ [], refl);
    };
    none = tt;
  }

  abbrev read_is : IsJudgedInRun (read_judging x) x.read (stand (sample_first_pass x 1) [] []) read_last
  read_is = record {
    between = read_between;
    reached = list_at_load x;
    moment = record { at = list_at_load x; after = (list_at_load x, refl); before = ([], refl); seen = refl };
    judgement = judged (sample_first_pass x 1) x.read (places.Bank 0) refl refl is.read;
    program = refl;
    calls = refl;
    ended = inl (record {
      number = 0;
      place = refl;
      ended = record {
        before = record { bank = bank_before; chain = record { number = 0; log = list_before_entry x } };
        following = record { bank = after_command bank_before (first_share 1) read_judged; chain = record { number = 0; log = sample_list x } };
        result = record { status = Success; number = Some 0 };
        bank = is_bank;
        finished = read_finished;
        asks_for = record { entry = refl; nothing = tt };
      };
      loaded = refl;
      entered = sym (ap (λ (b : Bool). b && true) bank_takes);
    });
  }

  wrong_is : IsUnjudged (wrong_reply x) x.wrong read_last read_last
  wrong_is = record { answered = inl (x.status, (record { command = is.wrong; stopped = is.wrong_line }, refl)); same = refl }

  served_at_1 : IsServedBeside n (sample_list x) 1 (sample_accounts x 1)
  served_at_1 = record {
    worked = (read_last, read_is, (read_last, wrong_is, refl));
    fresh = fresh_at 1 second_there;
    port_is = refl;
    asked = refl;
    begins = ([], refl);
    did = refl;
    in_full = (record { entered = λ _. refl; loads = λ control. absurd (cc (control)) }, ((x.status, is.wrong_line), tt));
  }

  -- ---- all premises

  served_at : (port : ℕ) → port < 2 → IsServedBeside n (sample_list x) port (sample_accounts x port)
  served_at zero there = served_at_0
  served_at (suc zero) there = served_at_1
  served_at (suc (suc port)) there = absurd (omega (arith, there))

  banks_are : (k : ℕ) (bank : BankConfig) → slice_get n.banks k ≡ Some bank → IsBankOfPorts k bank (sample_list x)
  banks_are zero bank at =
      subst (λ (b : BankConfig). IsBankOfPorts 0 b (sample_list x)) (same_some sample_bank bank at)
      (record { chain = (refl, (tt, tt), omega arith); few = omega arith })
  banks_are (suc k) bank at = absurd (cc (at))

  -- nobody else did anything
  nobody : (owner : ℕ) → 2 ≤ owner → (owner ≡ instrument → ⊥) → done_for owner (sample_list x) ≡ []
  nobody owner past other =
      let not_1 : 1 ≡ owner → ⊥ = λ same. absurd (omega (arith, past, same)) in
      let not_0 : 0 ≡ owner → ⊥ = λ same. absurd (omega (arith, past, same)) in
      let not_32 : instrument ≡ owner → ⊥ = λ same. other (sym same) in
      done_same owner (list_before_entry x) (entry_link x) (none_other owner (entry_link x).deed read_entry.1 refl not_1)
      ∙ (done_same owner (list_at_load x) showing (none_shows owner Shows refl)
      ∙ (done_same owner (list_at_first x) (load_link x) (none_other owner (load_link x).deed (Publishes (0, load_publish x)) refl not_0)
      ∙ (done_same owner (opening_link ∷ factory_link x ∷ []) showing (none_shows owner Shows refl)
      ∙ (done_same owner (opening_link ∷ []) (factory_link x) (none_other owner (factory_link x).deed (Publishes (instrument, factory_publish x)) refl not_32)
      ∙ done_same owner [] opening_link (none_opens owner opening_link.deed (2684354560, 16, 4) refl)))))

  listed : AreListed (sample_list x)
  listed =
      let a = listed_more [] opening_link listed_none (few_seen (opening_link ∷ []) 0 0 refl refl (omega arith)) in
      let b = listed_more (opening_link ∷ []) (factory_link x) a (few_seen (opening_link ∷ factory_link x ∷ []) 0 1 refl refl (omega arith)) in
      let c = listed_more (opening_link ∷ factory_link x ∷ []) showing b (few_seen (list_at_first x) 1 1 refl refl (omega arith)) in
      let d = listed_more (list_at_first x) (load_link x) c (few_seen (list_at_load x) 1 2 refl refl (omega arith)) in
      let e = listed_more (list_at_load x) showing d (few_seen (list_before_entry x) 2 2 refl refl (omega arith)) in
      listed_more (list_before_entry x) (entry_link x) e (few_seen (sample_list x) 2 2 refl refl (omega arith))

  all_served : AreServedTogether n (sample_accounts x) (sample_list x)
  all_served = record {
    few = two_few;
    each = served_at;
    banks = banks_are;
    factory = factory_publish x;
    firsts = [];
    program = refl;
    firsts_are = refl;
    sizes = refl;
    opening = refl;
    others = nobody;
    listed = listed;
    shown = all_seen (sample_list x) 2 refl refl;
  }

  -- ---- the history

  -- a packet that is taken
  took : (h : History) (port : ℕ) (p : Cargo) (place : Place) → opened h port ≡ None → IsPlacedBy (windows_in n) p place → (published n h (slot_of_packet n p)).1 ≡ 0 → Taken 0 ≡ take_outcome n h p (opened h port)
  took h port p place closed lies first =
      ap (λ (g : ℕ). Taken g) (sym first)
      ∙ sym (ap (take_outcome n h p) closed ∙ (ap (packet_outcome n h p) lies.command ∙ ap (header_outcome n h p) lies.allowed))

  abbrev taken_stage : History
  taken_stage = Then Start (Take 0 x.stage) (Taken 0)

  abbrev taken_load : History
  taken_load = Then (staged_history x) (Take 0 x.load) (Taken 0)

  abbrev entered_history : History
  entered_history = Then (loaded_history x) (EffectEvent 1) (Done Success (read_judging x).reply None)

  abbrev stage_open : Open
  stage_open = taken x.stage 0 Start

  abbrev load_open : Open
  load_open = taken x.load 0 (staged_history x)

  abbrev read_open : Open
  read_open = taken x.read 0 taken_load

  abbrev stage_status : Status
  stage_status = (answer_staged first_staging (judged_yes x.stage places.Staging 0)).status

  abbrev load_done : Outcome
  load_done = Done Success (load_judging x).reply (Some (published_result 1))

  -- the staging of port 0 after the program was staged
  staging_now : staging n (staged_history x) 0 ≡ sample_staging x
  staging_now = ap (λ (place : Option Place). staged_at place stage_status (command_of x.stage) first_staging) is.stage.lies

  prepared_now : IsPrepared (control_of (command_of x.load).body) (staging n (taken_history x) 0).bytes x.program.sizes 0 x.program
  prepared_now = subst (λ (st : Staged). IsPrepared (control_of (command_of x.load).body) st.bytes x.program.sizes 0 x.program) (sym staging_now) is.prepared

  none_published : publishes n (taken_history x) ≡ 0
  none_published = refl

  load_controlled : IsControlled n (taken_history x) 0 (command_of x.load) (judged_line (command_of x.load) 0) load_done
  load_controlled =
      subst (λ (line : Option Status). IsControlled n (taken_history x) 0 (command_of x.load) line load_done) (sym is.load_line)
      (record {
        load = loads.Published 0 x.program;
        decides = (prepared_now, subst (λ (k : ℕ). k + 1 < 2 ^ 32) (sym none_published) (omega arith));
        reported = refl;
      })

  entries_staged : entries n (staged_history x) 0 ≡ []
  entries_staged = entries_done n taken_stage (EffectEvent 0) stage_status (stage_judging x).reply None stage_open (Some places.Staging) refl is.stage.lies 0

  entries_loaded : entries n (loaded_history x) 0 ≡ []
  entries_loaded = entries_done n (taken_history x) (PublishEvent 0) Success (load_judging x).reply (Some (published_result 1)) load_open (Some places.Control) refl is.load.lies 0 ∙ entries_staged

  abbrev read_command : CommandValue
  read_command = command_of x.read

  read_reported : Done Success (read_judging x).reply None ≡ effect_at_place n (loaded_history x) 1 read_command 0 (Some (places.Bank 0))
  read_reported =
      ap (λ (status : Status). Done status (read_judging x).reply None) (sym (read_status (memory_of bank_before)))
      ∙ sym (ap (λ (es : List EntryValue). done (answer (replay (first_memory (Some sample_bank)) es) (has_entry_room (Some sample_bank) 1 es) read_command 0)) entries_loaded)

  lawful_staged : IsLawfulExceptAnswers n (staged_history x)
  lawful_staged = (
    (tt, outcome_here n Start (Take 0 x.stage) (Taken 0) 0 refl first_there (took Start 0 x.stage places.Staging refl is.stage refl)),
    outcome_here n taken_stage (EffectEvent 0) (Done stage_status (stage_judging x).reply None) 0 refl first_there
        (sym (effect_reported n taken_stage 0 0 stage_open places.Staging refl (is.stands (seen_header_in x.stage) 0) is.stage.lies)),
  )

  lawful_taken : IsLawfulExceptAnswers n (taken_history x)
  lawful_taken = (
    (lawful_staged, outcome_here n (staged_history x) (Take 0 x.load) (Taken 0) 0 refl first_there (took (staged_history x) 0 x.load places.Control refl is.load refl)),
    outcome_here n taken_load (Take 1 x.read) (Taken 0) 1 refl second_there (took taken_load 1 x.read (places.Bank 0) refl is.read refl),
  )

  lawful_loaded : IsLawfulExceptAnswers n (loaded_history x)
  lawful_loaded = (
    lawful_taken,
    outcome_here n (taken_history x) (PublishEvent 0) load_done 0 refl first_there
        (publish_reported n (taken_history x) 0 0 load_open load_done refl (is.stands (seen_header_in x.load) 0) is.load.lies load_controlled),
  )

  lawful_all : IsLawfulExceptAnswers n (sample_history x)
  lawful_all = (
    (
      lawful_loaded,
      outcome_here n (loaded_history x) (EffectEvent 1) (Done Success (read_judging x).reply None) 1 refl second_there
          (read_reported ∙ sym (effect_reported n (loaded_history x) 1 0 read_open (places.Bank 0) refl (is.stands (seen_header_in x.read) 1) is.read.lies)),
    ),
    outcome_here n entered_history (Take 1 x.wrong) (Answered x.status (wrong_reply x)) 1 refl second_there
        (sym (ap (packet_outcome n entered_history x.wrong) is.wrong ∙ ap (header_outcome n entered_history x.wrong) is.wrong_line)),
  )

  -- what happened at each port
  happened_0 : HappenBy 0 (x.stage ∷ x.load ∷ []) (Judged (stage_judging x) ∷ Judged (load_judging x) ∷ []) (happened_at 0 (sample_history x))
  happened_0 =
      let first = happening (Take 0 x.stage) (Taken 0) ∷ happening (EffectEvent 0) (Done stage_status (stage_judging x).reply None) ∷ [] in
      let last = happening (Take 0 x.load) (Taken 0) ∷ happening (PublishEvent 0) load_done ∷ [] in (
        first,
        last,
        refl,
        record { status = stage_status; loaded = None; is = refl },
        (last, [], refl, record { status = Success; loaded = Some (published_result 1); is = refl }, refl),
      )

  happened_1 : HappenBy 1 (x.read ∷ x.wrong ∷ []) (Judged (read_judging x) ∷ Replied (wrong_reply x) ∷ []) (happened_at 1 (sample_history x))
  happened_1 =
      let first = happening (Take 1 x.read) (Taken 0) ∷ happening (EffectEvent 1) (Done Success (read_judging x).reply None) ∷ [] in
      let last = happening (Take 1 x.wrong) (Answered x.status (wrong_reply x)) ∷ [] in (
        first,
        last,
        refl,
        record { status = Success; loaded = None; is = refl },
        (last, [], refl, (x.status, refl), refl),
      )

  happened_all : (port : ℕ) → port < 2 → HappenBy port (sample_accounts x port).packets (sample_accounts x port).deeds (happened_at port (sample_history x))
  happened_all zero there = happened_0
  happened_all (suc zero) there = happened_1
  happened_all (suc (suc port)) there = absurd (omega (arith, there))

  -- nothing happened elsewhere
  none_happened : (q : ℕ) → (q ≡ 0 → ⊥) → (q ≡ 1 → ⊥) → happened_at q (sample_history x) ≡ []
  none_happened q not_0 not_1 =
      happened_elsewhere entered_history (Take 1 x.wrong) (Answered x.status (wrong_reply x)) 1 q refl not_1
      ∙ (happened_elsewhere (loaded_history x) (EffectEvent 1) (Done Success (read_judging x).reply None) 1 q refl not_1
      ∙ (happened_elsewhere (taken_history x) (PublishEvent 0) load_done 0 q refl not_0
      ∙ (happened_elsewhere taken_load (Take 1 x.read) (Taken 0) 1 q refl not_1
      ∙ (happened_elsewhere (staged_history x) (Take 0 x.load) (Taken 0) 0 q refl not_0
      ∙ (happened_elsewhere taken_stage (EffectEvent 0) (Done stage_status (stage_judging x).reply None) 0 q refl not_0
      ∙ happened_elsewhere Start (Take 0 x.stage) (Taken 0) 0 q refl not_0)))))

  none_open : (q : ℕ) → (q ≡ 0 → ⊥) → (q ≡ 1 → ⊥) → opened (sample_history x) q ≡ None
  none_open q not_0 not_1 =
      opened_elsewhere entered_history (Take 1 x.wrong) (Answered x.status (wrong_reply x)) 1 q refl not_1
      ∙ (opened_elsewhere (loaded_history x) (EffectEvent 1) (Done Success (read_judging x).reply None) 1 q refl not_1
      ∙ (opened_elsewhere (taken_history x) (PublishEvent 0) load_done 0 q refl not_0
      ∙ (opened_elsewhere taken_load (Take 1 x.read) (Taken 0) 1 q refl not_1
      ∙ (opened_elsewhere (staged_history x) (Take 0 x.load) (Taken 0) 0 q refl not_0
      ∙ (opened_elsewhere taken_stage (EffectEvent 0) (Done stage_status (stage_judging x).reply None) 0 q refl not_0
      ∙ opened_elsewhere Start (Take 0 x.stage) (Taken 0) 0 q refl not_0)))))

  closed_all : (q : ℕ) → opened (sample_history x) q ≡ None
  closed_all zero = refl
  closed_all (suc zero) = refl
  closed_all (suc (suc q)) = none_open (suc (suc q)) (λ same. absurd (omega (arith, same))) (λ same. absurd (omega (arith, same)))

  entries_all : (k : ℕ) (bank : BankConfig) → slice_get n.banks k ≡ Some bank → entries n (sample_history x) k ≡ entries_of k (sample_list x)
  entries_all zero bank at =
      entries_done n (loaded_history x) (EffectEvent 1) Success (read_judging x).reply None read_open (Some (places.Bank 0)) refl is.read.lies 0
      ∙ (ap (λ (es : List EntryValue). entered n (Some sample_bank) 1 read_open Success es) entries_loaded
      ∙ ap (λ (turn : Option Turn). checked_entry 1 0 x.read 0 (verdict_at turn) Success ∷ []) (is.stands (seen_header_in x.read) 1))
  entries_all (suc k) bank at = absurd (cc (at))

  published_now : published_at n (taken_history x) (PublishEvent 0) load_done ≡ Some (0, x.program.program)
  published_now = loaded_program images n (taken_history x) 0 0 load_open x.program (load_judging x).reply (published_result 1) refl prepared_now

  programs_all : (slot : ℕ) → option_map program_and_generation (judging_program (publishes_of (sample_list x)) slot) ≡ Some (published n (sample_history x) slot)
  programs_all slot =
      by (0 == slot) ∙ ap (λ (made : Option (ℕ × Program)). Some (published_after_count made 0 slot (x.program.program, 0))) (sym published_now)
    where
      by : (own : Bool) → Some (program_and_generation (cond own (x.program, 1) (x.program, 0))) ≡ Some (if own then (x.program.program, 0 + 1) else (x.program.program, 0))
      by true = refl
      by false = refl

  stagings_all : (port : ℕ) → port < 2 → staging n (sample_history x) port ≡ (sample_accounts x port).last.pass.staging
  stagings_all zero there = ap (λ (st : Staged). staged st.bytes (published_result 1)) staging_now
  stagings_all (suc zero) there = ap (λ (place : Option Place). staged_at place Success read_command first_staging) is.read.lies
  stagings_all (suc (suc port)) there = absurd (omega (arith, there))

  has_sample_history : HasSampleHistory x
  has_sample_history = record {
    has = record {
      history = sample_history x;
      lawful = lawful_all;
      happened = happened_all;
      elsewhere = λ q past. none_happened q (λ same. absurd (omega (arith, past, same))) (λ same. absurd (omega (arith, past, same)));
      closed = closed_all;
      entries_are = entries_all;
      programs = programs_all;
      count = ap (λ (made : Option (ℕ × Program)). counted_publish made 0 + 1) (sym published_now);
      stagings = stagings_all;
    };
    is = refl;
  }

  -- ---- wrong histories

  done_refused : (status : Status) (reply : List ℕ) → Done status reply None ≡ Refused → ⊥
  done_refused status reply same = cc (same)

  taken_same : (a b : ℕ) → Taken a ≡ Taken b → a ≡ b
  taken_same a b same = cc (same)

  published_alone : published_at n taken_load (PublishEvent 0) load_done ≡ Some (0, x.program.program)
  published_alone =
      loaded_program images n taken_load 0 0 load_open x.program (load_judging x).reply (published_result 1) refl
      (subst (λ (st : Staged). IsPrepared (control_of (command_of x.load).body) st.bytes x.program.sizes 0 x.program) (sym staging_now) is.prepared)

  -- after the load the program of reads has the generation 1
  read_slot : slot_of_packet n x.read ≡ 0
  read_slot = ap (slot_at (command_of x.read)) is.read.lies ∙ ap (λ (k : Kind). slot_of k (places.Bank 0)) is.read_kind

  shown_alone : (published n (loaded_alone x) (slot_of_packet n x.read)).1 ≡ 1
  shown_alone =
      ap (λ (slot : ℕ). (published n (loaded_alone x) slot).1) read_slot
      ∙ ap (λ (made : Option (ℕ × Program)). (published_after_count made 0 0 (x.program.program, 0)).1) published_alone

  wrong_ones : WrongOnesAreRefused x
  wrong_ones = record {
    late = λ lawful. done_refused Success (read_judging x).reply (lawful.0.1.here second_there);
    early = λ lawful.
        let reported : Taken 0 ≡ Taken (published n (loaded_alone x) (slot_of_packet n x.read)).1 =
        lawful.1.here second_there ∙ (ap (packet_outcome n (loaded_alone x) x.read) is.read.command ∙ ap (header_outcome n (loaded_alone x) x.read) is.read.allowed) in
        let same = taken_same 0 (published n (loaded_alone x) (slot_of_packet n x.read)).1 reported in
        let one = shown_alone in
        absurd (omega (arith, same, one));
    missing = λ same. two_apart same;
  }

pub sample_is_lawful : ImagesAreRead → SampleIsLawful
sample_is_lawful images = λ x is. (all_served images x is, has_sample_history images x is, wrong_ones images x is)
