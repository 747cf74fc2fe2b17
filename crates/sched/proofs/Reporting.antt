-- Count, Ticket and Peak: what a helper answers is lawful, and the world goes on.
use Rattle.std.proofs.Common.{◌≡◌, ◌<◌, ◌+◌, ◌%◌, ◌^◌, ◌&&◌, ◌==◌, max, ℕ, List, [], length, get_or, Bool, true, false, Option, Some, None, refl, sym, ap, subst, ◌∙◌, arith, eqb-true}
use Rattle.std.specs.Prelude.{IsTrue, slice_get, slice_set, if◌then◌else◌}
use Rattle.machine.specs.Sizes.{Maps, IsInside, kind_of_map}
use Rattle.machine.specs.declared.kinds.MapKind.{MapKind}
use Rattle.machine.specs.declared.kinds.MapKind.TheVariants as kinds
use Rattle.machine.specs.declared.helpers.Helper.{Helper}
use Rattle.machine.specs.Helpers.{takes_kind}
use Rattle.machine.specs.declared.helpers.Helper.TheVariants as helpers
use Rattle.sched.specs.declared.event.Event.{Event}
use Rattle.sched.specs.declared.event.Event.TheVariants.{Count, Ticket, Peak}
use Rattle.sched.specs.declared.event.Outcome.{Outcome}
use Rattle.sched.specs.declared.event.Outcome.TheVariants.{Refused, Told}
use Rattle.sched.specs.Answers.{answering}
use Rattle.plain_cells.specs.Words.{answer_of_word, word_after_question, with_word, key_word_at}
use Rattle.sched.specs.History.{History, Then, Open, port_of, open_after_answer, opened}
use Rattle.sched.specs.Lawful.{answer_of_cell}
use Rattle.sched.specs.Looking.{Node, argument_asked, cell_asked, is_cell_of_node, turn_by, turn_at, staging, tickets, peaks, word_by_kind, cell_word, entries}
use Rattle.sched.specs.Worlds.{RunValue, PortValue, WorldValue, AreCellWords, GoesOnLawfully, IsJudging, IsPortOf, IsWorldOf, turn_in}
use Rattle.sched.proofs.Outcomes.{IsOutcome, IsOutcomeAt, helper_outcome, then_lawful, answered_on}
use Rattle.sched.proofs.Growth.{IsPortAfter, ports_changed, left_all}
use Rattle.plain_cells.proofs.Tickets.{word_written}

-- a port's program is where the program of its command is
pub judging_turn : (n : Node) (port : ℕ) (last : Option Open) (run : Option RunValue) → IsJudging n port last run → turn_by n port last ≡ turn_in run
judging_turn n port None None is = refl
judging_turn n port None (Some r) is = absurd is
judging_turn n port (Some o) None is = absurd is
judging_turn n port (Some o) (Some r) is = is.turn

-- an event of a port that the node has is lawful if its outcome is the one at a port
pub outcome_here : (n : Node) (h : History) (event : Event) (outcome : Outcome) (ports : List PortValue) → port_of event < length ports → length ports ≡ n.ports → IsOutcomeAt n h event outcome → IsOutcome n h event outcome
outcome_here n h event outcome ports there count is = record {
  here = λ _. is;
  nowhere = λ past. absurd (omega (arith, there, count, past));
}

-- a port whose program got that answer
pub record IsAnsweredPort (reported : ℕ) (p q : PortValue) : Type 0 where
  pub rest : q ≡ record p { run = q.run }
  pub run : (n : Node) (port : ℕ) (last : Option Open) → port < 32 → IsJudging n port last p.run → IsJudging n port (open_after_answer reported last) q.run

-- after an answer the port is that of its command with the answer
answered_port : (n : Node) (h : History) (event : Event) (reported port : ℕ) (p q : PortValue) → port < 32 → IsAnsweredPort reported p q
    → IsPortOf n port (staging n h port) (opened h port) (entries n h) p → IsPortAfter n h event (Told reported) port q
answered_port n h event reported port p q low is before = record {
  staging_is = ap (λ (v : PortValue). v.staging) is.rest ∙ before.staging_is;
  judging = is.run n port (opened h port) low before.judging;
  count = ap (λ (v : PortValue). length v.shares) is.rest ∙ before.count;
  shares = λ k share there. before.shares k share (ap (λ (v : PortValue). slice_get v.shares k) (sym is.rest) ∙ there);
}

-- what a port's program asks is what looking back finds there
asked_here : (n : Node) (h : History) (port map key : ℕ) (helper : Helper) (p : PortValue) → Some (map, key) ≡ cell_asked helper (turn_in p.run)
    → IsPortOf n port (staging n h port) (opened h port) (entries n h) p → cell_asked helper (turn_at n h port) ≡ Some (map, key)
asked_here n h port map key helper p asked is =
    ap (cell_asked helper) (judging_turn n port (opened h port) p.run is.judging) ∙ sym asked

-- if a port asks no such helper, looking back finds none asked
none_here : (n : Node) (h : History) (port : ℕ) (helper : Helper) (p : PortValue) → None ≡ cell_asked helper (turn_in p.run)
    → IsPortOf n port (staging n h port) (opened h port) (entries n h) p → cell_asked helper (turn_at n h port) ≡ None
none_here n h port helper p asked is =
    ap (cell_asked helper) (judging_turn n port (opened h port) p.run is.judging) ∙ sym asked

-- the word of a cell of a world is what looking back finds
read_word : (n : Node) (h : History) (map key word : ℕ) (w : WorldValue) → IsInside w.sizes map key → word ≡ key_word_at w.words map key → IsWorldOf n h w → word ≡ cell_word n h map key
read_word n h map key word w inside read is =
    let inside_here = subst (λ (sizes : Maps). IsInside sizes map key) is.sizes_are inside in
    read ∙ is.words_are map key inside_here

-- `ticket` takes only counter maps, and `peak` only peak maps
counter_alone : (kind : MapKind) → IsTrue (takes_kind helpers.Ticket kind) → kind ≡ kinds.Counter
counter_alone kinds.Counter is = refl
counter_alone kinds.Peak is = absurd cc

peak_alone : (kind : MapKind) → IsTrue (takes_kind helpers.Peak kind) → kind ≡ kinds.Peak
peak_alone kinds.Counter is = absurd cc
peak_alone kinds.Peak is = refl

-- the word of a cell of a counter map is how many tickets were drawn, modulo 2^64
counter_word : (n : Node) (h : History) (map key word : ℕ) → word ≡ cell_word n h map key → kind_of_map n.sizes map ≡ kinds.Counter → word ≡ tickets n h map key % 2 ^ 64
counter_word n h map key word is kind = is ∙ ap (λ (k : MapKind). word_by_kind k (tickets n h map key) (peaks n h map key)) kind

-- the word of a cell of a peak map is its peak
peak_word : (n : Node) (h : History) (map key word : ℕ) → word ≡ cell_word n h map key → kind_of_map n.sizes map ≡ kinds.Peak → word ≡ peaks n h map key
peak_word n h map key word is kind = is ∙ ap (λ (k : MapKind). word_by_kind k (tickets n h map key) (peaks n h map key)) kind

-- ---- words

-- one ticket more, modulo 2^64
next_word : (word count : ℕ) → word ≡ count % 2 ^ 64 → (word + 1) % 2 ^ 64 ≡ (count + 1) % 2 ^ 64
next_word word count e = rw e (omega arith)

-- if the word that is written is the new value of its cell, and the old words were right, each word is right
written_says : (same_map same_key : Bool) (word old next say now : ℕ) → old ≡ say → (same_map ≡ true → same_key ≡ true → next ≡ now)
    → word ≡ (if same_map && same_key then next else old) → word ≡ (if same_map && same_key then now else say)
written_says false same_key word old next say now is more e = e ∙ is
written_says true true word old next say now is more e = e ∙ more refl refl
written_says true false word old next say now is more e = e ∙ is

-- what a cell's word says after one more ticket of it or none, and after it was raised or not
say_drawn : (kind : MapKind) (here : Bool) (tickets peak : ℕ) → (if here then word_by_kind kind (tickets + 1) peak else word_by_kind kind tickets peak) ≡ word_by_kind kind (if here then tickets + 1 else tickets) peak
say_drawn kind true tickets peak = refl
say_drawn kind false tickets peak = refl

say_raised : (kind : MapKind) (here : Bool) (tickets peak new : ℕ) → (if here then word_by_kind kind tickets new else word_by_kind kind tickets peak) ≡ word_by_kind kind tickets (if here then new else peak)
say_raised kind true tickets peak new = refl
say_raised kind false tickets peak new = refl

-- the same either way
either : (here : Bool) (x : ℕ) → (if here then x else x) ≡ x
either true x = refl
either false x = refl

-- the words after one of them was written, if only the cell's says something new
words_written : (sizes : Maps) (words : List (List ℕ)) (say now : ℕ → ℕ → ℕ) (map key next : ℕ) → map < length words → key < length (get_or words map []) → next ≡ now map key
    → AreCellWords sizes say words → (m k : ℕ) → IsInside sizes m k → key_word_at (with_word words map key next) m k ≡ (if (map == m) && (key == k) then now m k else say m k)
words_written sizes words say now map key next there inside new are m k here =
    written_says (map == m) (key == k) (key_word_at (with_word words map key next) m k) (key_word_at words m k) next (say m k) (now m k) (are m k here)
    (λ at_map at_key. new ∙ ap (λ (x : ℕ). now x key) (eqb-true map m at_map) ∙ ap (now m) (eqb-true key k at_key))
    (word_written words map key next m k there inside (map == m) (key == k) refl refl)

-- the words after a Count, a Ticket and a Peak that were answered
count_words : (n : Node) (h : History) (port map key reported next : ℕ) (words : List (List ℕ)) → map < length words → key < length (get_or words map [])
    → next ≡ cell_word n h map key → AreCellWords n.sizes (cell_word n h) words → AreCellWords n.sizes (cell_word n (Then h (Count port) (Told reported))) (with_word words map key next)
count_words n h port map key reported next words there inside same are = λ m k here.
    words_written n.sizes words (cell_word n h) (cell_word n h) map key next there inside same are m k here ∙ either ((map == m) && (key == k)) (cell_word n h m k)

ticket_words : (n : Node) (h : History) (port map key reported next : ℕ) (words : List (List ℕ)) → cell_asked helpers.Ticket (turn_at n h port) ≡ Some (map, key) → map < length words → key < length (get_or words map [])
    → kind_of_map n.sizes map ≡ kinds.Counter → reported ≡ tickets n h map key % 2 ^ 64 → next ≡ (reported + 1) % 2 ^ 64 → AreCellWords n.sizes (cell_word n h) words
    → AreCellWords n.sizes (cell_word n (Then h (Ticket port) (Told reported))) (with_word words map key next)
ticket_words n h port map key reported next words asked there inside kind read counts are = λ m k here.
    let now : ℕ → ℕ → ℕ = λ x y. word_by_kind (kind_of_map n.sizes x) (tickets n h x y + 1) (peaks n h x y) in
    let new : next ≡ now map key = counts ∙ next_word reported (tickets n h map key) read ∙ sym (ap (λ (c : MapKind). word_by_kind c (tickets n h map key + 1) (peaks n h map key)) kind) in
    let drawn = words_written n.sizes words (cell_word n h) now map key next there inside new are m k here ∙ say_drawn (kind_of_map n.sizes m) ((map == m) && (key == k)) (tickets n h m k) (peaks n h m k) in
    subst (λ (c : Option (ℕ × ℕ)). key_word_at (with_word words map key next) m k ≡ word_by_kind (kind_of_map n.sizes m) (if is_cell_of_node c m k then tickets n h m k + 1 else tickets n h m k) (peaks n h m k)) (sym asked) drawn

raised_words : (n : Node) (h : History) (port map key next : ℕ) (words : List (List ℕ)) → cell_asked helpers.Peak (turn_at n h port) ≡ Some (map, key) → map < length words → key < length (get_or words map [])
    → kind_of_map n.sizes map ≡ kinds.Peak → next ≡ max (peaks n h map key) (argument_asked (turn_at n h port)) → AreCellWords n.sizes (cell_word n h) words
    → AreCellWords n.sizes (cell_word n (Then h (Peak port) (Told next))) (with_word words map key next)
raised_words n h port map key next words asked there inside kind raised are = λ m k here.
    let argument = argument_asked (turn_at n h port) in
    let now : ℕ → ℕ → ℕ = λ x y. word_by_kind (kind_of_map n.sizes x) (tickets n h x y) (max (peaks n h x y) argument) in
    let new : next ≡ now map key = raised ∙ sym (ap (λ (c : MapKind). word_by_kind c (tickets n h map key) (max (peaks n h map key) argument)) kind) in
    let drawn = words_written n.sizes words (cell_word n h) now map key next there inside new are m k here
    ∙ say_raised (kind_of_map n.sizes m) ((map == m) && (key == k)) (tickets n h m k) (peaks n h m k) (max (peaks n h m k) argument) in
    subst (λ (c : Option (ℕ × ℕ)). key_word_at (with_word words map key next) m k ≡ word_by_kind (kind_of_map n.sizes m) (tickets n h m k) (if is_cell_of_node c m k then max (peaks n h m k) argument else peaks n h m k)) (sym asked) drawn

-- the number to which a port raises is what looking back finds there
argument_here : (n : Node) (h : History) (port argument : ℕ) (p : PortValue) → argument ≡ argument_asked (turn_in p.run)
    → IsPortOf n port (staging n h port) (opened h port) (entries n h) p → argument ≡ argument_asked (turn_at n h port)
argument_here n h port argument p asked is = asked ∙ sym (ap argument_asked (judging_turn n port (opened h port) p.run is.judging))

-- ---- helpers

-- if a helper takes maps of that kind, its answer by the cell's word is its answer by looking back
answered_by_kind : (n : Node) (h : History) (helper : Helper) (map key word argument : ℕ) → word ≡ cell_word n h map key → IsTrue (takes_kind helper (kind_of_map n.sizes map))
    → answer_of_word helper word argument ≡ answer_of_cell n h helper map key argument
answered_by_kind n h helpers.Count map key word argument is kind = is
answered_by_kind n h helpers.Ticket map key word argument is kind = counter_word n h map key word is (counter_alone (kind_of_map n.sizes map) kind)
answered_by_kind n h helpers.Peak map key word argument is kind = ap (λ (x : ℕ). max x argument) (peak_word n h map key word is (peak_alone (kind_of_map n.sizes map) kind))

-- What a port asks of a world. It is at a helper's question, with that argument, for a cell that is there, of a map
-- that the helper takes.
pub record IsAskedOf (w : WorldValue) (port map key argument : ℕ) (helper : Helper) (p : PortValue) : Type 0 where
  pub there : slice_get w.ports port ≡ Some p
  pub below : port < length w.ports
  pub low : port < 32
  pub asked : Some (map, key) ≡ cell_asked helper (turn_in p.run)
  pub argument_is : argument ≡ argument_asked (turn_in p.run)
  pub inside : IsInside w.sizes map key
  pub kind : IsTrue (takes_kind helper (kind_of_map w.sizes map))
  pub map_there : map < length w.words
  pub key_there : key < length (get_or w.words map [])

-- what looking back finds of it
record IsFound (n : Node) (h : History) (port map key argument word : ℕ) (helper : Helper) : Type 0 where
  pub asked : cell_asked helper (turn_at n h port) ≡ Some (map, key)
  pub argument_is : argument ≡ argument_asked (turn_at n h port)
  pub word_is : word ≡ cell_word n h map key
  pub kind : IsTrue (takes_kind helper (kind_of_map n.sizes map))

found : (n : Node) (h : History) (w : WorldValue) (port map key argument : ℕ) (helper : Helper) (p : PortValue) → IsAskedOf w port map key argument helper p → IsWorldOf n h w → IsFound n h port map key argument (key_word_at w.words map key) helper
found n h w port map key argument helper p is old =
    let here = old.ports_are.each port p is.there in
    record {
      asked = asked_here n h port map key helper p is.asked here;
      argument_is = argument_here n h port argument p is.argument_is here;
      word_is = read_word n h map key (key_word_at w.words map key) w is.inside refl old;
      kind = subst (λ (sizes : Maps). IsTrue (takes_kind helper (kind_of_map sizes map))) old.sizes_are is.kind;
    }

-- what the helper answers is lawful
answered_lawful : (n : Node) (h : History) (port map key argument word : ℕ) (helper : Helper) → IsFound n h port map key argument word helper → Told (answer_of_word helper word argument) ≡ helper_outcome n h helper (turn_at n h port)
answered_lawful n h port map key argument word helper is =
    ap (λ (x : ℕ). Told x) (answered_by_kind n h helper map key word argument is.word_is is.kind ∙ ap (answer_of_cell n h helper map key) is.argument_is)
    ∙ sym (ap (answered_on n h helper (argument_asked (turn_at n h port))) is.asked)

-- the words after what it answered
helper_words : (n : Node) (h : History) (port map key argument : ℕ) (helper : Helper) (words : List (List ℕ)) → map < length words → key < length (get_or words map [])
    → IsFound n h port map key argument (key_word_at words map key) helper → AreCellWords n.sizes (cell_word n h) words
    → AreCellWords n.sizes (cell_word n (Then h (answering helper port) (Told (answer_of_word helper (key_word_at words map key) argument)))) (with_word words map key (word_after_question helper (key_word_at words map key) argument))
helper_words n h port map key argument helpers.Count words there inside is are = count_words n h port map key (key_word_at words map key) (key_word_at words map key) words there inside is.word_is are
helper_words n h port map key argument helpers.Ticket words there inside is are =
    let counter = counter_alone (kind_of_map n.sizes map) is.kind in
    ticket_words n h port map key (key_word_at words map key) ((key_word_at words map key + 1) % 2 ^ 64) words is.asked there inside counter (counter_word n h map key (key_word_at words map key) is.word_is counter) refl are
helper_words n h port map key argument helpers.Peak words there inside is are =
    let peak = peak_alone (kind_of_map n.sizes map) is.kind in
    let raised : max (key_word_at words map key) argument ≡ max (peaks n h map key) (argument_asked (turn_at n h port)) =
    ap (λ (x : ℕ). max x argument) (peak_word n h map key (key_word_at words map key) is.word_is peak) ∙ ap (max (peaks n h map key)) is.argument_is in
    raised_words n h port map key (max (key_word_at words map key) argument) words is.asked there inside peak raised are

-- a world of which one port got an answer, and the words were written
answered_world_of : (n : Node) (h : History) (event : Event) (reported : ℕ) (w : WorldValue) (words : List (List ℕ)) (p q : PortValue) → slice_get w.ports (port_of event) ≡ Some p → port_of event < 32 → IsAnsweredPort reported p q
    → AreCellWords n.sizes (cell_word n (Then h event (Told reported))) words → IsWorldOf n h w → IsWorldOf n (Then h event (Told reported)) (record w { words = words; ports = slice_set w.ports (port_of event) q })
answered_world_of n h event reported w words p q there low is are old = record {
  windows_are = old.windows_are;
  sizes_are = old.sizes_are;
  banks_are = old.banks_are;
  words_are = are;
  programs_are = old.programs_are;
  count_is = old.count_is;
  ports_are = ports_changed n h event (Told reported) w.ports p q there (answered_port n h event reported (port_of event) p q low is (old.ports_are.each (port_of event) p there)) (λ other k apart. refl) old.ports_are;
}

-- what the event of a helper comes to at a port, and leaves
pub helper_goes_on : (w : WorldValue) (port map key argument : ℕ) (helper : Helper) (p q : PortValue) → IsAskedOf w port map key argument helper p → IsAnsweredPort (answer_of_word helper (key_word_at w.words map key) argument) p q
    → answer_of_word helper (key_word_at w.words map key) argument < 2 ^ 64 → GoesOnLawfully (answering helper port) (Told (answer_of_word helper (key_word_at w.words map key) argument)) w (record w { words = with_word w.words map key (word_after_question helper (key_word_at w.words map key) argument); ports = slice_set w.ports port q })
helper_goes_on w port map key argument helpers.Count p q is reported small n h world =
    let old = world.world in
    let at = found n h w port map key argument helpers.Count p is old in
    record {
      lawful = then_lawful n h (Count port) (Told (key_word_at w.words map key)) world.lawful (outcome_here n h (Count port) (Told (key_word_at w.words map key)) w.ports is.below old.ports_are.count (answered_lawful n h port map key argument (key_word_at w.words map key) helpers.Count at)) small;
      world = answered_world_of n h (Count port) _ w _ p q is.there is.low reported (helper_words n h port map key argument helpers.Count w.words is.map_there is.key_there at old.words_are) old;
    }
helper_goes_on w port map key argument helpers.Ticket p q is reported small n h world =
    let old = world.world in
    let at = found n h w port map key argument helpers.Ticket p is old in
    record {
      lawful = then_lawful n h (Ticket port) (Told (key_word_at w.words map key)) world.lawful (outcome_here n h (Ticket port) (Told (key_word_at w.words map key)) w.ports is.below old.ports_are.count (answered_lawful n h port map key argument (key_word_at w.words map key) helpers.Ticket at)) small;
      world = answered_world_of n h (Ticket port) _ w _ p q is.there is.low reported (helper_words n h port map key argument helpers.Ticket w.words is.map_there is.key_there at old.words_are) old;
    }
helper_goes_on w port map key argument helpers.Peak p q is reported small n h world =
    let old = world.world in
    let at = found n h w port map key argument helpers.Peak p is old in
    record {
      lawful = then_lawful n h (Peak port) (Told (max (key_word_at w.words map key) argument)) world.lawful (outcome_here n h (Peak port) (Told (max (key_word_at w.words map key) argument)) w.ports is.below old.ports_are.count (answered_lawful n h port map key argument (key_word_at w.words map key) helpers.Peak at)) small;
      world = answered_world_of n h (Peak port) _ w _ p q is.there is.low reported (helper_words n h port map key argument helpers.Peak w.words is.map_there is.key_there at old.words_are) old;
    }

-- a helper that no program asks for is refused, and the world stays
refused_here : (w : WorldValue) (event : Event) → port_of event < length w.ports → ((n : Node) (h : History) → IsWorldOf n h w → IsOutcomeAt n h event Refused) → GoesOnLawfully event Refused w w
refused_here w event below is n h world = record {
  lawful = then_lawful n h event Refused world.lawful (outcome_here n h event Refused w.ports below world.world.ports_are.count (is n h world.world)) tt;
  world = left_all n h event Refused w tt world.world;
}

pub helper_refused : (w : WorldValue) (port : ℕ) (helper : Helper) (p : PortValue) → slice_get w.ports port ≡ Some p → port < length w.ports → None ≡ cell_asked helper (turn_in p.run) → GoesOnLawfully (answering helper port) Refused w w
helper_refused w port helper p there below asked = by helper refused
  where
    refused : (n : Node) (h : History) → IsWorldOf n h w → Refused ≡ helper_outcome n h helper (turn_at n h port)
    refused n h old = sym (ap (answered_on n h helper (argument_asked (turn_at n h port))) (none_here n h port helper p asked (old.ports_are.each port p there)))

    by : (which : Helper) → ((n : Node) (h : History) → IsWorldOf n h w → Refused ≡ helper_outcome n h which (turn_at n h port)) → GoesOnLawfully (answering which port) Refused w w
    by helpers.Count is = refused_here w (Count port) below is
    by helpers.Ticket is = refused_here w (Ticket port) below is
    by helpers.Peak is = refused_here w (Peak port) below is
