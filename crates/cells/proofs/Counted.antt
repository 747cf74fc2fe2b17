-- What a word counts, and one answer more.
use Rattle.std.proofs.Common.{◌≡◌, ◌≢◌, ℕ, ◌+◌, ◌%◌, ◌^◌, ◌≤◌, Bool, true, false, List, [], ◌∷◌, ◌++◌, length, map, refl, sym, ap, ◌∙◌, subst, arith}
use Rattle.std.specs.Prelude.{All, sum_by, count_by, filter, cond, ◌==◌, ◌&&◌, nat_lt}
use Rattle.std.proofs.lemmas.List.{length-map, map-append, length-append, append-nil}
use Rattle.std.proofs.Math.Bool.{and-false}
use Rattle.std.proofs.lemmas.List.Sums.{sum_by-cons, sum_by_push, length-filter}
use Rattle.std.proofs.lemmas.List.Elements.{All-push, All-weaker, filter-append}
use Rattle.std.proofs.lemmas.Bool.{ne_eqb, eq-eqb}
use Rattle.std.proofs.lemmas.Bool.Decides.{nat_tests}
use Rattle.std.proofs.Math.Nat.{mod-add-mod}
use Rattle.machine.specs.declared.helpers.Helper.TheVariants as helpers
use Rattle.cells.specs.declared.logs.Answer.{Answer}
use Rattle.cells.specs.Logs.{answer_of_parts, draws_ticket, ticket_numbers, is_ticket, IsBelowCount}
use Rattle.cells.specs.Counting.{IsTicketCounted}

-- how often the number is in the list
abbrev times : ℕ → List ℕ → ℕ
times number numbers = count_by (λ k. k == number) numbers

-- the tickets are as many as the answers that are tickets
pub length_tickets : (word : ℕ) (ds : List Answer) → length (ticket_numbers word ds) ≡ count_by (is_ticket word) ds
length_tickets word ds = length-map (filter (is_ticket word) ds) (λ (d : Answer). d.exact) ∙ length-filter (is_ticket word) ds

-- whether it is the ticket of that number
abbrev is_numbered : (word number : ℕ) → Answer → Bool
is_numbered word number d = is_ticket word d && (d.exact == number)

times_pick : (b : Bool) (d : Answer) (number : ℕ) (ds : List Answer)
    → times number (map (λ (d : Answer). d.exact) (cond b (d ∷ ds) ds)) ≡ cond (b && (d.exact == number)) 1 0 + times number (map (λ (d : Answer). d.exact) ds)
times_pick true d number ds = sum_by-cons (λ (k : ℕ). cond (k == number) 1 0) d.exact (map (λ (d : Answer). d.exact) ds)
times_pick false d number ds = omega arith

-- a number is among the tickets as often as in the answers
pub times_tickets : (word number : ℕ) (ds : List Answer) → times number (ticket_numbers word ds) ≡ count_by (is_numbered word number) ds
times_tickets word number [] = refl
times_tickets word number (d ∷ ds) =
    times_pick (is_ticket word d) d number (filter (is_ticket word) ds)
    ∙ ap (λ (n : ℕ). cond (is_numbered word number d) 1 0 + n) (times_tickets word number ds)
    ∙ sym (sum_by-cons (λ (x : Answer). cond (is_numbered word number x) 1 0) d ds)

-- whatever is counted, it is as often in both
abbrev pub AreAlike : List Answer → List Answer → Type 0
AreAlike ds es = (f : Answer → ℕ) → sum_by f es ≡ sum_by f ds

pub length_alike : (word : ℕ) (ds es : List Answer) → AreAlike ds es → length (ticket_numbers word es) ≡ length (ticket_numbers word ds)
length_alike word ds es same = length_tickets word es ∙ same (λ d. cond (is_ticket word d) 1 0) ∙ sym (length_tickets word ds)

-- a word that counts some answers counts the same in another order
pub counted_alike : (word value : ℕ) (ds es : List Answer) → AreAlike ds es
    → ((P : Answer → Type 0) → All P ds → All P es) → IsTicketCounted word value ds → IsTicketCounted word value es
counted_alike word value ds es same facts h =
    let n : length (ticket_numbers word es) ≡ length (ticket_numbers word ds) = length_alike word ds es same in record {
      counts = h.counts ∙ ap (λ (k : ℕ). k % 2 ^ 64) (sym n);
      each_once = λ number. times_tickets word number es ∙ same (λ d. cond (is_numbered word number d) 1 0) ∙ sym (times_tickets word number ds)
          ∙ h.each_once number ∙ ap (λ (k : ℕ). cond (nat_lt number k) 1 0) (sym n);
      following = subst (λ (k : ℕ). All (IsBelowCount word k) es) (sym n) (facts (IsBelowCount word (length (ticket_numbers word ds))) h.following);
    }

-- the tickets with one answer more
tickets_push : (word : ℕ) (ds : List Answer) (d : Answer) → ticket_numbers word (ds ++ d ∷ []) ≡ ticket_numbers word ds ++ ticket_numbers word (d ∷ [])
tickets_push word ds d =
    ap (map (λ (d : Answer). d.exact)) (filter-append (is_ticket word) ds (d ∷ []))
    ∙ map-append (λ (d : Answer). d.exact) (filter (is_ticket word) ds) (filter (is_ticket word) (d ∷ []))

-- one that is no ticket of the word
tickets_same : (word : ℕ) (ds : List Answer) (d : Answer) → is_ticket word d ≡ false → ticket_numbers word (ds ++ d ∷ []) ≡ ticket_numbers word ds
tickets_same word ds d other =
    tickets_push word ds d ∙ ap (λ (b : Bool). ticket_numbers word ds ++ map (λ (d : Answer). d.exact) (cond b (d ∷ []) [])) other ∙ append-nil (ticket_numbers word ds)

-- if the tickets stay as they were, so does the count
counted_same : (word value : ℕ) (ds : List Answer) (d : Answer) → ticket_numbers word (ds ++ d ∷ []) ≡ ticket_numbers word ds
    → IsBelowCount word (length (ticket_numbers word ds)) d → IsTicketCounted word value ds → IsTicketCounted word value (ds ++ d ∷ [])
counted_same word value ds d same new h =
    let n : length (ticket_numbers word (ds ++ d ∷ [])) ≡ length (ticket_numbers word ds) = ap length same in record {
      counts = h.counts ∙ ap (λ (k : ℕ). k % 2 ^ 64) (sym n);
      each_once = λ number. ap (times number) same ∙ h.each_once number ∙ ap (λ (k : ℕ). cond (nat_lt number k) 1 0) (sym n);
      following = subst (λ (k : ℕ). All (IsBelowCount word k) (ds ++ d ∷ [])) (sym n) (All-push (IsBelowCount word (length (ticket_numbers word ds))) ds d h.following new);
    }

-- an answer of another word
pub counted_other : (word value : ℕ) (ds : List Answer) (d : Answer) → d.word ≢ word → IsTicketCounted word value ds → IsTicketCounted word value (ds ++ d ∷ [])
counted_other word value ds d apart h =
    let other : (d.word == word) ≡ false = ne_eqb d.word word apart in
    let passed : is_ticket word d ≡ false = ap (λ (b : Bool). draws_ticket d.helper && b) other ∙ and-false (draws_ticket d.helper) in
    counted_same word value ds d (tickets_same word ds d passed) (λ here. absurd (apart here)) h

-- an answer of `count`
pub counted_count : (word value answer : ℕ) (ds : List Answer) → IsTicketCounted word value ds
    → IsTicketCounted word value (ds ++ answer_of_parts helpers.Count word 0 (length (ticket_numbers word ds)) answer ∷ [])
counted_count word value answer ds h =
    let d = answer_of_parts helpers.Count word 0 (length (ticket_numbers word ds)) answer in
    counted_same word value ds d (tickets_same word ds d refl) (λ here. omega arith) h

one_more : (number n : ℕ) → cond (nat_lt number n) 1 0 + cond (n == number) 1 0 ≡ cond (nat_lt number (n + 1)) 1 0
one_more number n = grind (arith, nat_tests)

later : {a n : ℕ} → a ≤ n → a ≤ n + 1
later h = omega arith

-- an answer of `ticket`
pub counted_ticket : (word value answer : ℕ) (ds : List Answer) → IsTicketCounted word value ds
    → IsTicketCounted word ((value + 1) % 2 ^ 64) (ds ++ answer_of_parts helpers.Ticket word 0 (length (ticket_numbers word ds)) answer ∷ [])
counted_ticket word value answer ds h =
    let n = length (ticket_numbers word ds) in
    let d : Answer = answer_of_parts helpers.Ticket word 0 n answer in
    let more : ticket_numbers word (ds ++ d ∷ []) ≡ ticket_numbers word ds ++ n ∷ [] =
    tickets_push word ds d ∙ ap (λ (b : Bool). ticket_numbers word ds ++ map (λ (d : Answer). d.exact) (cond b (d ∷ []) [])) (eq-eqb word word refl) in
    let long : length (ticket_numbers word (ds ++ d ∷ [])) ≡ n + 1 = ap length more ∙ length-append (ticket_numbers word ds) (n ∷ []) in
    record {
      counts = ap (λ (k : ℕ). (k + 1) % 2 ^ 64) h.counts ∙ mod-add-mod n (2 ^ 64) 1 ∙ ap (λ (k : ℕ). k % 2 ^ 64) (sym long);
      each_once = λ number. ap (times number) more ∙ sum_by_push (λ (k : ℕ). cond (k == number) 1 0) (ticket_numbers word ds) n
          ∙ ap (λ (k : ℕ). k + cond (n == number) 1 0) (h.each_once number) ∙ one_more number n ∙ ap (λ (k : ℕ). cond (nat_lt number k) 1 0) (sym long);
      following = subst (λ (k : ℕ). All (IsBelowCount word k) (ds ++ d ∷ [])) (sym long)
          (All-push (IsBelowCount word (n + 1)) ds d (All-weaker (IsBelowCount word n) (IsBelowCount word (n + 1)) (λ x f here. later (f here)) ds h.following) (λ here. omega arith));
    }
