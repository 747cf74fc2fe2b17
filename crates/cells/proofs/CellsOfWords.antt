-- The cell of a word, and the calls of answers.
use Rattle.std.proofs.Common.{◌≡◌, ℕ, zero, suc, ◌+◌, ◌-◌, ◌%◌, ◌^◌, ◌≤◌, ◌<◌, Bool, true, false, List, [], ◌∷◌, ◌++◌, length, map, take, refl, sym, ap, ◌∙◌, subst, arith}
use Rattle.std.specs.Prelude.{All, slice_index, sum, count_by, filter, cond, ◌==◌, ◌&&◌, nat_lt}
use Rattle.std.specs.Bool.{Decides}
use Rattle.std.proofs.lemmas.List.{map-append}
use Rattle.std.proofs.lemmas.List.Sums.{sum_by-cons, sum_by_more_le}
use Rattle.std.proofs.lemmas.List.Elements.{All-nil, All-cons, All-head, All-tail}
use Rattle.std.proofs.lemmas.Bool.{lt-ltb, le-ltb, ltb-false, eqb-true}
use Rattle.std.proofs.lemmas.Bool.Decides.{Decides-and, Decides-eqb, Decides-like, same_from_decides}
use Rattle.std.proofs.Math.Nat.{mod-eq_of_lt}
use Rattle.machine.specs.Sizes.{Maps, IsInside, kind_of_map}
use Rattle.machine.specs.declared.kinds.MapKind.{MapKind}
use Rattle.machine.specs.declared.kinds.MapKind.TheVariants.{Counter, Peak}
use Rattle.machine.specs.declared.calls.Call.{Call}
use Rattle.machine.specs.Runs.{call}
use Rattle.machine.specs.Step.{question}
use Rattle.machine.specs.declared.helpers.Helper.{Helper}
use Rattle.cells.specs.declared.logs.Answer.{Answer}
use Rattle.cells.specs.Logs.{cell_word_of, cell_of, kind_of_cell, answer_of_parts, draws_ticket, call_answered_by, calls_of, ticket_numbers, tickets_of, is_ticket, asks_ticket, IsBelowCount, IsUnder, is_raise, IsCallUnder, asks_raise, IsGreatest, AreNumbersBelow}
use Rattle.cells.specs.Counting.{IsTicketCounted, IsPeak, IsWordAnswered}
use Rattle.cells.specs.Seats.{CellSeatValue, CellsValue, IsOf, AreOf, IsSeatOf, calls, calls_back, cells_with}

-- the word of a cell, by only the sizes of the maps
abbrev word_in : (sizes : List ℕ) → (map key : ℕ) → ℕ
word_in sizes map key = sum (take map sizes) + key

-- the word of a cell is one of the words
pub word_inside : (maps : Maps) (m key : ℕ) → IsInside maps m key → cell_word_of maps m key < sum maps.cells
word_inside maps m key h = let below = h.key_exists in let more = sum_by_more_le (λ (x : ℕ). x) maps.cells m 0 h.map_exists in omega arith

-- the words of the first map, and those of the others
cell_of_first : (size : ℕ) (sizes : List ℕ) (word : ℕ) → word < size → cell_of (size ∷ sizes) word ≡ (0, word)
cell_of_first size sizes word below =
    ap (λ (b : Bool). cond b (0, word) (suc (cell_of sizes (word - size)).0, (cell_of sizes (word - size)).1)) (lt-ltb word size below)

cell_of_next : (size : ℕ) (sizes : List ℕ) (word m key : ℕ) → size ≤ word → cell_of sizes (word - size) ≡ (m, key) → cell_of (size ∷ sizes) word ≡ (suc m, key)
cell_of_next size sizes word m key over rest =
    ◌∙◌ {b = (suc (cell_of sizes (word - size)).0, (cell_of sizes (word - size)).1)}
    (ap (λ (b : Bool). cond b (0, word) (suc (cell_of sizes (word - size)).0, (cell_of sizes (word - size)).1)) (le-ltb word size over))
    (ap (λ (c : ℕ × ℕ). (suc c.0, c.1)) rest)

-- the cell of the word of a cell
pub cell_of_word : (sizes : List ℕ) (m key : ℕ) → m < length sizes → key < slice_index sizes m → cell_of sizes (word_in sizes m key) ≡ (m, key)
cell_of_word [] m key here below = absurd (omega arith)
cell_of_word (size ∷ sizes) zero key here below =
    let same : word_in (size ∷ sizes) 0 key ≡ key = omega arith in
    ap (cell_of (size ∷ sizes)) same ∙ cell_of_first size sizes key below
cell_of_word (size ∷ sizes) (suc m) key here below =
    let sums : word_in (size ∷ sizes) (suc m) key ≡ size + word_in sizes m key = omega (arith, sum_by-cons (λ (x : ℕ). x) size (take m sizes)) in
    let left : word_in (size ∷ sizes) (suc m) key - size ≡ word_in sizes m key = omega arith in
    cell_of_next size sizes (word_in (size ∷ sizes) (suc m) key) m key (omega arith) (ap (cell_of sizes) left ∙ cell_of_word sizes m key (omega arith) below)

word_by : (size : ℕ) (sizes : List ℕ) (word : ℕ) (b : Bool) → (nat_lt word size ≡ b) → (size ≤ word → word_in sizes (cell_of sizes (word - size)).0 (cell_of sizes (word - size)).1 ≡ word - size)
    → (let c : ℕ × ℕ = cond b (0, word) (suc (cell_of sizes (word - size)).0, (cell_of sizes (word - size)).1) in word_in (size ∷ sizes) c.0 c.1 ≡ word)
word_by size sizes word true is rest = omega arith
word_by size sizes word false is rest =
    let c = cell_of sizes (word - size) in
    let over : size ≤ word = ltb-false word size is in
    let e : word_in sizes c.0 c.1 ≡ word - size = rest over in
    omega (arith, sum_by-cons (λ (x : ℕ). x) size (take c.0 sizes))

-- the word of the cell of a word
pub word_of_cell : (sizes : List ℕ) (word : ℕ) → word < sum sizes → word_in sizes (cell_of sizes word).0 (cell_of sizes word).1 ≡ word
word_of_cell [] word below = absurd (omega arith)
word_of_cell (size ∷ sizes) word below =
    word_by size sizes word (nat_lt word size) refl (λ over. word_of_cell sizes (word - size) (omega (arith, sum_by-cons (λ (x : ℕ). x) size sizes)))

-- the cell of the word of a cell of these maps
pub cell_there : (maps : Maps) (m key : ℕ) → IsInside maps m key → cell_of maps.cells (cell_word_of maps m key) ≡ (m, key)
cell_there maps m key h = cell_of_word maps.cells m key h.map_exists h.key_exists

-- the word of a cell has the kind of its map
pub kind_there : (maps : Maps) (m key : ℕ) → IsInside maps m key → kind_of_cell maps (cell_word_of maps m key) ≡ kind_of_map maps m
kind_there maps m key h = ap (λ (c : ℕ × ℕ). kind_of_map maps c.0) (cell_there maps m key h)

-- the answers with one more, whatever the kind of its word
pub record HasAnswered (kind : MapKind) (helper : Helper) (word argument : ℕ) (before : List Answer) (answer : ℕ) (after : List Answer) : Type 0 where
  pub exact : ℕ
  pub wraps : kind ≡ Counter → answer ≡ exact % 2 ^ 64
  pub answers : after ≡ before ++ answer_of_parts helper word argument exact answer ∷ []

pub has_answered : (kind : MapKind) (helper : Helper) (word argument : ℕ) (before : List Answer) (answer : ℕ) (after : List Answer)
    → IsWordAnswered kind helper word argument before answer after → HasAnswered kind helper word argument before answer after
has_answered Counter helper word argument before answer after d = record { exact = d.exact; wraps = λ is. d.wraps; answers = d.answers }
has_answered Peak helper word argument before answer after d = record { exact = answer; wraps = λ is. absurd cc; answers = d.answers }

-- the calls with one answer more
pub asked : (maps : Maps) (m key : ℕ) (kind : MapKind) (helper : Helper) (argument answer : ℕ) (before after : List Answer) → IsInside maps m key
    → HasAnswered kind helper (cell_word_of maps m key) argument before answer after
    → calls_of maps after ≡ calls_of maps before ++ call (question helper m key argument) answer ∷ []
asked maps m key kind helper argument answer before after h d =
    ap (calls_of maps) d.answers ∙ map-append (call_answered_by maps) before (answer_of_parts helper (cell_word_of maps m key) argument d.exact answer ∷ [])
    ∙ ap (λ (c : ℕ × ℕ). calls_of maps before ++ call (question helper c.0 c.1 argument) answer ∷ []) (cell_there maps m key h)

-- an answer is of the word of a cell if its call asked the cell
answers_there : (maps : Maps) (m key : ℕ) (d : Answer) → d.word < sum maps.cells → (cell_of maps.cells d.word).0 ≡ m → (cell_of maps.cells d.word).1 ≡ key → d.word ≡ cell_word_of maps m key
answers_there maps m key d below first second =
    let c = cell_of maps.cells d.word in
    sym (word_of_cell maps.cells d.word below) ∙ ap (λ (k : ℕ). cell_word_of maps k c.1) first ∙ ap (cell_word_of maps m) second

cell_is : (maps : Maps) (m key : ℕ) → IsInside maps m key → (d : Answer) → d.word < sum maps.cells
    → ((cell_of maps.cells d.word).0 == m) && ((cell_of maps.cells d.word).1 == key) ≡ (d.word == cell_word_of maps m key)
cell_is maps m key h d below =
    let c = cell_of maps.cells d.word in
    let word = cell_word_of maps m key in
    let both : Decides ((c.0 == m) && (c.1 == key)) ((c.0 ≡ m) × (c.1 ≡ key)) = Decides-and (c.0 == m) (c.1 == key) (Decides-eqb c.0 m) (Decides-eqb c.1 key) in
    let there : (c.0 ≡ m) × (c.1 ≡ key) → d.word ≡ word = λ e. answers_there maps m key d below e.0 e.1 in
    let back : d.word ≡ word → (c.0 ≡ m) × (c.1 ≡ key) = λ e. let same : c ≡ (m, key) = ap (cell_of maps.cells) e ∙ cell_there maps m key h in (ap (λ (x : ℕ × ℕ). x.0) same, ap (λ (x : ℕ × ℕ). x.1) same) in
    same_from_decides _ _ (Decides-like ((c.0 == m) && (c.1 == key)) there back both) (Decides-eqb d.word word)

-- an answer is a ticket of the word if its call drew a ticket of the cell
asks_is : (maps : Maps) (m key : ℕ) → IsInside maps m key → (d : Answer) → d.word < sum maps.cells → asks_ticket m key (call_answered_by maps d) ≡ is_ticket (cell_word_of maps m key) d
asks_is maps m key h d below = ap (λ (b : Bool). draws_ticket d.helper && b) (cell_is maps m key h d below)

abbrev answers_in : List Call → List ℕ
answers_in cs = map (λ c. c.answer) cs

abbrev numbers : List Answer → List ℕ
numbers ds = map (λ d. d.exact) ds

picks : (b : Bool) (c : Call) (d : Answer) (cs : List Call) (ds : List Answer) → (b ≡ true → c.answer ≡ d.exact) → answers_in cs ≡ numbers ds
    → answers_in (cond b (c ∷ cs) cs) ≡ numbers (cond b (d ∷ ds) ds)
picks true c d cs ds first rest = let e = first refl in cc
picks false c d cs ds first rest = rest

as_many : (b : Bool) (c : Call) (d : Answer) (cs : List Call) (ds : List Answer) → length (answers_in cs) ≡ length (numbers ds)
    → length (answers_in (cond b (c ∷ cs) cs)) ≡ length (numbers (cond b (d ∷ ds) ds))
as_many true c d cs ds rest = ap suc rest
as_many false c d cs ds rest = rest

-- a ticket whose number fits is answered as it is
fits : (word n : ℕ) (d : Answer) → n < 2 ^ 64 → IsBelowCount word n d → (d.word ≡ word → d.reported ≡ d.exact % 2 ^ 64) → is_ticket word d ≡ true → d.reported ≡ d.exact
fits word n d small following wraps is =
    let helps : draws_ticket d.helper ≡ true = grind arith in
    let here : d.word ≡ word = eqb-true d.word word (grind arith) in
    let least : d.exact + cond (draws_ticket d.helper) 1 0 ≤ n = following here in
    let more : d.exact + 1 ≤ n = subst (λ (b : Bool). d.exact + cond b 1 0 ≤ n) helps least in
    wraps here ∙ mod-eq_of_lt (omega arith)

-- if the numbers fit, the answers of the calls are the numbers of the tickets
same_tickets : (maps : Maps) (m key n : ℕ) → IsInside maps m key → kind_of_cell maps (cell_word_of maps m key) ≡ Counter → n < 2 ^ 64 → (ds : List Answer) → AreOf maps ds → All (IsBelowCount (cell_word_of maps m key) n) ds
    → tickets_of m key (calls_of maps ds) ≡ ticket_numbers (cell_word_of maps m key) ds
same_tickets maps m key n h kind small [] are following = refl
same_tickets maps m key n h kind small (d ∷ ds) are following =
    let word = cell_word_of maps m key in
    let c : Call = call_answered_by maps d in
    let of : IsOf maps d = All-head (IsOf maps) d ds are in
    let rest = same_tickets maps m key n h kind small ds (All-tail (IsOf maps) d ds are) (All-tail (IsBelowCount word n) d ds following) in
    let cs = filter (asks_ticket m key) (calls_of maps ds) in
    ap (λ (b : Bool). answers_in (cond b (c ∷ cs) cs)) (asks_is maps m key h d of.0)
    ∙ picks (is_ticket word d) c d cs (filter (is_ticket word) ds) (fits word n d small (All-head (IsBelowCount word n) d ds following) (λ here. of.1 (ap (kind_of_cell maps) here ∙ kind))) rest

-- the calls drew as many tickets as there are
same_length : (maps : Maps) (m key : ℕ) → IsInside maps m key → (ds : List Answer) → AreOf maps ds
    → length (tickets_of m key (calls_of maps ds)) ≡ length (ticket_numbers (cell_word_of maps m key) ds)
same_length maps m key h [] are = refl
same_length maps m key h (d ∷ ds) are =
    let word = cell_word_of maps m key in
    let c : Call = call_answered_by maps d in
    let of : IsOf maps d = All-head (IsOf maps) d ds are in
    let cs = filter (asks_ticket m key) (calls_of maps ds) in
    ap (λ (b : Bool). length (answers_in (cond b (c ∷ cs) cs))) (asks_is maps m key h d of.0)
    ∙ as_many (is_ticket word d) c d cs (filter (is_ticket word) ds) (same_length maps m key h ds (All-tail (IsOf maps) d ds are))

-- whoever has all answers of a counter map's cell has the numbers below the word, each once
pub reported : (maps : Maps) (m key value : ℕ) (ds : List Answer) → IsInside maps m key → kind_of_map maps m ≡ Counter → AreOf maps ds → IsTicketCounted (cell_word_of maps m key) value ds
    → length (tickets_of m key (calls_of maps ds)) < 2 ^ 64 → AreNumbersBelow value (tickets_of m key (calls_of maps ds))
reported maps m key value ds h kind are counted small =
    let word = cell_word_of maps m key in
    let n = length (ticket_numbers word ds) in
    let few : n < 2 ^ 64 = (let e = same_length maps m key h ds are in omega arith) in
    let same : tickets_of m key (calls_of maps ds) ≡ ticket_numbers word ds = same_tickets maps m key n h (kind_there maps m key h ∙ kind) few ds are counted.following in
    let all : value ≡ n = counted.counts ∙ mod-eq_of_lt few in
    subst (λ (ns : List ℕ). AreNumbersBelow value ns) (sym same) (subst (λ (k : ℕ). AreNumbersBelow k (ticket_numbers word ds)) (sym all) counted.each_once)

-- the calls of answers that are under a number are under it
calls_under : (maps : Maps) (m key value : ℕ) (ds : List Answer) → AreOf maps ds → All (IsUnder (cell_word_of maps m key) value) ds → All (IsCallUnder m key value) (calls_of maps ds)
calls_under maps m key value [] are under = All-nil (IsCallUnder m key value)
calls_under maps m key value (d ∷ ds) are under =
    let of : IsOf maps d = All-head (IsOf maps) d ds are in
    let first : IsUnder (cell_word_of maps m key) value d = All-head (IsUnder (cell_word_of maps m key) value) d ds under in
    All-cons (IsCallUnder m key value) (call_answered_by maps d) (calls_of maps ds) (λ e f. first (answers_there maps m key d of.0 e f))
    (calls_under maps m key value ds (All-tail (IsOf maps) d ds are) (All-tail (IsUnder (cell_word_of maps m key) value) d ds under))

-- the calls raised a cell to a number as often as the answers did
raises_alike : (maps : Maps) (m key value : ℕ) → IsInside maps m key → (ds : List Answer) → AreOf maps ds
    → count_by (asks_raise m key value) (calls_of maps ds) ≡ count_by (is_raise (cell_word_of maps m key) value) ds
raises_alike maps m key value h [] are = refl
raises_alike maps m key value h (d ∷ ds) are =
    let word = cell_word_of maps m key in
    let of : IsOf maps d = All-head (IsOf maps) d ds are in
    let rest = raises_alike maps m key value h ds (All-tail (IsOf maps) d ds are) in
    let first = ap {B = ℕ} (λ (b : Bool). cond (b && (d.argument == value)) 1 0) (cell_is maps m key h d of.0) in
    omega (arith, first, rest, sum_by-cons (λ (c : Call). cond (asks_raise m key value c) 1 0) (call_answered_by maps d) (calls_of maps ds), sum_by-cons (λ (x : Answer). cond (is_raise word value x) 1 0) d ds)

-- whoever has all answers of a peak map's cell has the greatest argument of its calls
pub answered_peak : (maps : Maps) (m key value : ℕ) (ds : List Answer) → IsInside maps m key → AreOf maps ds → IsPeak (cell_word_of maps m key) value ds → IsGreatest m key value (calls_of maps ds)
answered_peak maps m key value ds h are peak = record {
  under = calls_under maps m key value ds are peak.under;
  reached = λ p. let r = peak.reached p in let e = raises_alike maps m key value h ds are in omega arith;
}

-- the calls of the cells after a seat came back
pub calls_joined : (it new : CellsValue) (s : CellSeatValue) → IsSeatOf it s → new ≡ cells_with it s → calls_back new ≡ calls_back it ++ calls s
calls_joined it new s of is = ap calls_back is ∙ rw (of.sizes) (map-append _ it.answers s.answers)
