-- What the word of a counter says.
use Rattle.std.proofs.Common.{◌≡◌, ◌<◌, ◌+◌, ◌%◌, ◌^◌, ◌&&◌, ◌==◌, ℕ, List, [], ◌∷◌, length, get_or, Bool, true, false, refl, sym, ap, subst, ◌∙◌, arith, eqb-true}
use Rattle.std.specs.Prelude.{IsTrue, if◌then◌else◌}
use Rattle.std.proofs.lemmas.Bool.{eqb-false}
use Rattle.std.proofs.lemmas.Grind.{get_or-set_at}
use Rattle.std.proofs.lemmas.List.{get_or-set_other}
use Rattle.machine.specs.Helpers.{helper_number, takes_kind}
use Rattle.machine.specs.Sizes.{Maps, kind_of_map}
use Rattle.machine.specs.declared.calls.Question.{Question}
use Rattle.machine.specs.declared.helpers.Helper.{Helper}
use Rattle.machine.specs.declared.helpers.Helper.TheVariants as helpers
use Rattle.machine.specs.declared.kinds.MapKind.{MapKind}
use Rattle.machine.specs.declared.kinds.MapKind.TheVariants.{Counter}
use Rattle.plain_cells.specs.Words.{AreCells, CallsKeepCells, IsOfCell, TicketsAreCounted, is_draw, tickets_in, with_word, key_word_at, word_after_question, words_after_question}
use Rattle.plain_cells.proofs.Zeros.{cell_there, cells_keep}

-- the words with one of them written, cell by cell
pub word_written : (words : List (List ℕ)) (map key word m k : ℕ) → map < length words → key < length (get_or words map []) → (same_map same_key : Bool) → (map == m) ≡ same_map → (key == k) ≡ same_key
    → key_word_at (with_word words map key word) m k ≡ (if same_map && same_key then word else key_word_at words m k)
word_written words map key word m k there inside false same_key at_map at_key =
    ap (λ (row : List ℕ). get_or row k 0) (get_or-set_other words map m _ [] (λ e. eqb-false map m at_map (sym e)))
word_written words map key word m k there inside true true at_map at_key =
    let here = eqb-true map m at_map in
    let cell = eqb-true key k at_key in
    ap (λ (row : List ℕ). get_or row k 0) (get_or-set_at words map m _ [] (sym here) there) ∙ get_or-set_at (get_or words map []) key k word 0 (sym cell) inside
word_written words map key word m k there inside true false at_map at_key =
    let here = eqb-true map m at_map in
    ap (λ (row : List ℕ). get_or row k 0) (get_or-set_at words map m _ [] (sym here) there) ∙ get_or-set_other (get_or words map []) key k word 0 (λ e. eqb-false key k at_key (sym e))
    ∙ ap (λ (x : ℕ). key_word_at words x k) here

-- the word of a counter after a ticket of it
ticked : (drawn : Bool) → ℕ → ℕ
ticked true word = (word + 1) % 2 ^ 64
ticked false word = word

-- only a ticket of the cell changes the word of a counter
by_helper : (helper : Helper) (same_map same_key : Bool) (here word argument : ℕ) (kind : MapKind) → IsTrue (takes_kind helper kind) → (same_map ≡ true → kind ≡ Counter) → (same_map ≡ true → same_key ≡ true → here ≡ word)
    → (if same_map && same_key then word_after_question helper here argument else word) ≡ ticked (helper_number helper == helper_number helpers.Ticket && same_map && same_key) word
unfolding ticked
by_helper helpers.Count false same_key here word argument kind takes counts same = refl
by_helper helpers.Count true false here word argument kind takes counts same = refl
by_helper helpers.Count true true here word argument kind takes counts same = same refl refl
by_helper helpers.Ticket false same_key here word argument kind takes counts same = refl
by_helper helpers.Ticket true false here word argument kind takes counts same = refl
by_helper helpers.Ticket true true here word argument kind takes counts same = ap (λ n. (n + 1) % 2 ^ 64) (same refl refl)
by_helper helpers.Peak false same_key here word argument kind takes counts same = refl
by_helper helpers.Peak true false here word argument kind takes counts same = refl
by_helper helpers.Peak true true here word argument kind takes counts same =
    let refused : IsTrue (takes_kind helpers.Peak Counter) = subst (λ (k : MapKind). IsTrue (takes_kind helpers.Peak k)) (counts refl) takes in cc

word_after : (sizes : Maps) (words : List (List ℕ)) (q : Question) (map key : ℕ) → AreCells sizes words → kind_of_map sizes map ≡ Counter → IsOfCell sizes q
    → key_word_at (words_after_question words q) map key ≡ ticked (is_draw q map key) (key_word_at words map key)
word_after sizes words q map key cells counter of =
    let there = cell_there sizes words q.map q.key of.inside cells in
    word_written words q.map q.key _ map key there.0 there.1 (q.map == map) (q.key == key) refl refl
    ∙ by_helper q.helper (q.map == map) (q.key == key) (key_word_at words q.map q.key) (key_word_at words map key) q.argument (kind_of_map sizes q.map) of.kind
    (λ same. ap (kind_of_map sizes) (eqb-true q.map map same) ∙ counter)
    (λ same_map same_key. ap (λ m. key_word_at words m q.key) (eqb-true q.map map same_map) ∙ ap (λ k. key_word_at words map k) (eqb-true q.key key same_key))

after_one : (sizes : Maps) (words : List (List ℕ)) (q : Question) → AreCells sizes words → IsOfCell sizes q → AreCells sizes (words_after_question words q)
after_one sizes words q cells of = cells_keep sizes words q.map q.key _ (cell_there sizes words q.map q.key of.inside cells).0 cells

pub calls_keep_cells : CallsKeepCells
calls_keep_cells sizes words following [] cells calls = subst (λ (w : List (List ℕ)). AreCells sizes w) (sym calls) cells
calls_keep_cells sizes words following (c ∷ cs) cells calls = calls_keep_cells sizes (words_after_question words c.question) following cs (after_one sizes words c.question cells calls.0) calls.2

-- one call, and the rest
one_and_rest : (drawn : Bool) (word next last rest : ℕ) → next ≡ ticked drawn word → (next + rest < 2 ^ 64 → last ≡ next + rest) → word + (if drawn then rest + 1 else rest) < 2 ^ 64
    → last ≡ word + (if drawn then rest + 1 else rest)
unfolding ticked
one_and_rest true word next last rest is more few =
    let grown : next ≡ word + 1 = omega (arith, is, few) in
    omega (arith, grown, more (omega (arith, grown, few)))
one_and_rest false word next last rest is more few = omega (arith, is, more (omega (arith, is, few)))

pub tickets_are_counted : TicketsAreCounted
tickets_are_counted sizes words following [] map key cells counter calls few = omega (arith, ap (λ (w : List (List ℕ)). key_word_at w map key) calls)
tickets_are_counted sizes words following (c ∷ cs) map key cells counter calls few =
    one_and_rest (is_draw c.question map key) (key_word_at words map key) (key_word_at (words_after_question words c.question) map key) (key_word_at following map key) (tickets_in cs map key)
    (word_after sizes words c.question map key cells counter calls.0)
    (tickets_are_counted sizes (words_after_question words c.question) following cs map key (after_one sizes words c.question cells calls.0) counter calls.2) few
