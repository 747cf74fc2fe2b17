-- Entries that are handed out at once.
use Rattle.std.proofs.Common.{◌≡◌, ◌+◌, ℕ, suc, Bool, List, [], ◌∷◌, ◌++◌, length, get_or, sym, ap, subst, ◌∙◌, arith}
use Rattle.std.specs.List.{flat_map, range_with_len}
use Rattle.std.specs.Prelude.{slice_get}
use Rattle.std.proofs.lemmas.List.{append-nil, append_assoc}
use Rattle.bank.specs.Records.{BankValue, EntryValue}
use Rattle.job_nodes.specs.LiveNodes.{LiveNodeValue}
use Rattle.job_live.specs.Entries.{TurnsLeft, has_one, left_line, left_text}
use Rattle.job_live.specs.Journals.{TurnsOne}
use Rattle.job_live.proofs.CellRows.{rows_more}

-- the line of one entry
pub only_line : (bank : ℕ) (entries : List EntryValue) (d : EntryValue) → length entries ≡ 1
    → left_line bank (get_or entries 0 d) ≡ flat_map (left_line bank) entries
only_line bank [] d one = absurd (omega (arith, one))
only_line bank (entry ∷ []) d one = sym (append-nil (left_line bank entry))
only_line bank (entry ∷ other ∷ entries) d one = absurd (omega (arith, one))

-- the same after a text
pub only_put : (bank : ℕ) (entries : List EntryValue) (d : EntryValue) (old new : List ℕ) → length entries ≡ 1
    → new ≡ old ++ left_line bank (get_or entries 0 d) → new ≡ old ++ flat_map (left_line bank) entries
only_put bank entries d old new one put = put ∙ ap (λ (l : List ℕ). old ++ l) (only_line bank entries d one)

-- the line of one bank more
pub left_more : (banks : List BankValue) (n : ℕ) (old mid new : List ℕ) → mid ≡ old ++ flat_map (left_text banks) (range_with_len 0 n)
    → new ≡ mid ++ left_text banks n → new ≡ old ++ flat_map (left_text banks) (range_with_len 0 (n + 1))
left_more banks n old mid new before put =
    put ∙ ap (λ (l : List ℕ). l ++ left_text banks n) before
    ∙ append_assoc old (flat_map (left_text banks) (range_with_len 0 n)) (left_text banks n)
    ∙ ap (λ (l : List ℕ). old ++ l) (sym (rows_more (left_text banks) n))

-- one bank more that was handed out, if it had one entry
pub turns_left_more : (due : Bool) (count : ℕ) (a b c : LiveNodeValue) → TurnsLeft count a b → due ≡ has_one (slice_get b.node.banks count)
    → TurnsOne due count b c → TurnsLeft (count + 1) a c
turns_left_more due count a b c all is one =
    let same : suc count ≡ count + 1 = omega arith in
    subst (λ (n : ℕ). TurnsLeft n a c) same (b, all, subst (λ (t : Bool). TurnsOne t count b c) is one)
