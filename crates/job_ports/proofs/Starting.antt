-- Banks that are filled in turn.
use Rattle.std.proofs.Common.{◌≡◌, ◌<◌, ◌≤◌, ◌+◌, ◌∙◌, ℕ, zero, suc, Bool, true, List, [], ◌∷◌, length, map, get_or, refl, sym, ap, ap₂, subst, arith}
use Rattle.std.specs.Prelude.{◌&&◌, nat_le, slice_index_or}
use Rattle.std.specs.List.{list_all}
use Rattle.std.proofs.lemmas.Bool.{and_parts, le-leb, leb-true}
use Rattle.std.proofs.lemmas.List.{length-map, length-replicate}
use Rattle.annals.specs.declared.deed.HistoryEntry.{HistoryEntry}
use Rattle.bank.specs.Records.{BankValue, covers, extent_of}
use Rattle.node_parts.specs.Nodes.{are_within, bank_of, is_within, range_of}
use Rattle.node_parts.specs.declared.config.BankConfig.{BankConfig}
use Rattle.target.specs.Unshared.{covers_at}
use Rattle.job_config.specs.OwnNodes.{fit}
use Rattle.job_ports.specs.Starts.{SetsAll, SetsFirst, base_in}

base_is : (banks : List BankConfig) (k : ℕ) (d : BankConfig) → k < length banks → (get_or banks k d).base ≡ base_in banks k
base_is [] k d low = absurd (omega (arith, low))
base_is (bank ∷ banks) zero d low = refl
base_is (bank ∷ banks) (suc k) d low = base_is banks k d (omega (arith, low))

-- what was found at a place is there, whatever is put in the place of those that are not there
pub same_at : {X : Type 0} (xs : List X) (k : ℕ) (x e d : X) → k < length xs → x ≡ get_or xs k e → x ≡ get_or xs k d
same_at [] k x e d low is = absurd (omega (arith, low))
same_at (y ∷ xs) zero x e d low is = is
same_at (y ∷ xs) (suc k) x e d low is = same_at xs k x e d (omega (arith, low)) is

-- one bank more
pub sets_more : (banks : List BankConfig) (contents : List (List ℕ)) (k place : ℕ) (d : BankConfig) (bytes : List ℕ) (a b c : List HistoryEntry) → k < length banks → place ≡ k
    → bytes ≡ slice_index_or contents place [] → SetsAll banks contents k a b → SetsFirst k (get_or banks place d).base bytes b c → SetsAll banks contents (k + 1) a c
sets_more banks contents k place d bytes a b c low at own all one =
    let same : suc k ≡ k + 1 = omega arith in
    let base = ap (λ (i : ℕ). (get_or banks i d).base) at ∙ base_is banks k d low in
    let content = own ∙ ap (λ (i : ℕ). slice_index_or contents i []) at in
    subst (λ (n : ℕ). SetsAll banks contents n a c) same
    (b, all, subst (λ (x : ℕ). SetsFirst k x (slice_index_or contents k []) b c) base (subst (λ (l : List ℕ). SetsFirst k (get_or banks place d).base l b c) content one))

-- as many banks as contents
pub fit_count : (banks : List BankConfig) (contents : List (List ℕ)) → fit banks contents ≡ true → length contents ≡ length banks
fit_count [] [] is = refl
fit_count [] (c ∷ cs) is = absurd (cc is)
fit_count (b ∷ bs) [] is = absurd (cc is)
fit_count (b ∷ bs) (c ∷ cs) is = ap (λ n. suc n) (fit_count bs cs (and_parts (nat_le (length c) b.size) (fit bs cs) is).1)

-- what banks begin with, over equal lists
pub sets_own : (banks shown : List BankConfig) (contents reported : List (List ℕ)) (known reached : List HistoryEntry) → shown ≡ banks → reported ≡ contents → known ≡ []
    → SetsAll shown reported (length shown) known reached → SetsAll banks contents (length banks) [] reached
sets_own banks shown contents reported known reached same also none all =
    subst (λ (k : List HistoryEntry). SetsAll banks contents (length banks) k reached) none
    (subst (λ (l : List (List ℕ)). SetsAll banks l (length banks) known reached) also (subst (λ (l : List BankConfig). SetsAll l reported (length l) known reached) same all))

-- ---- where banks are

-- the banks of the configuration, to which no command was applied, are where it says
pub fresh_extents : (ports : ℕ) (banks : List BankConfig) → map extent_of (map (bank_of ports) banks) ≡ map range_of banks
fresh_extents ports [] = refl
fresh_extents ports (bank ∷ banks) =
    ap₂ (λ (n : ℕ) (l : List (ℕ × ℕ)). (bank.base, n) ∷ l) (length-replicate bank.size 0) (fresh_extents ports banks)

-- as many banks as the configuration has
pub extents_count : (shown : List BankValue) (banks : List BankConfig) → map extent_of shown ≡ map range_of banks → length shown ≡ length banks
extents_count shown banks are = sym (length-map shown extent_of) ∙ ap (λ (l : List (ℕ × ℕ)). length l) are ∙ length-map banks range_of

extent_head : (e d : ℕ × ℕ) (es ds : List (ℕ × ℕ)) → e ∷ es ≡ d ∷ ds → e ≡ d
extent_head e d es ds is = cc

extents_tail : (e d : ℕ × ℕ) (es ds : List (ℕ × ℕ)) → e ∷ es ≡ d ∷ ds → es ≡ ds
extents_tail e d es ds is = cc

-- a bank that is there covers as many bytes at its beginning as it has
covers_first : (bank : BankValue) (config : BankConfig) (count : ℕ) → extent_of bank ≡ range_of config → nat_le count config.size ≡ true → covers bank config.base count ≡ true
covers_first bank config count is few =
    let first : bank.first ≡ config.base = ap (λ (e : ℕ × ℕ). e.0) is in
    let size : length bank.bytes ≡ config.size = ap (λ (e : ℕ × ℕ). e.1) is in
    let room : count ≤ config.size = leb-true count config.size few in
    let low : nat_le bank.first config.base ≡ true = le-leb bank.first config.base (omega (arith, first)) in
    let high : nat_le (config.base + count) (bank.first + length bank.bytes) ≡ true = le-leb (config.base + count) (bank.first + length bank.bytes) (omega (arith, first, size, room)) in
    ap₂ (λ (a b : Bool). a && b) low high

-- each bank covers its contents at its beginning
pub contents_covered : (shown : List BankValue) (banks : List BankConfig) (contents : List (List ℕ)) (k : ℕ) (d : BankConfig) → map extent_of shown ≡ map range_of banks → fit banks contents ≡ true → k < length banks
    → covers_at shown k (get_or banks k d).base (length (slice_index_or contents k [])) ≡ true
contents_covered shown [] contents k d are fits low = absurd (omega (arith, low))
contents_covered [] (x ∷ banks) contents k d are fits low = absurd (cc are)
contents_covered (b ∷ shown) (x ∷ banks) [] k d are fits low = absurd (cc fits)
contents_covered (b ∷ shown) (x ∷ banks) (c ∷ contents) zero d are fits low =
    covers_first b x (length c) (extent_head (extent_of b) (range_of x) (map extent_of shown) (map range_of banks) are) (and_parts (nat_le (length c) x.size) (fit banks contents) fits).0
contents_covered (b ∷ shown) (x ∷ banks) (c ∷ contents) (suc k) d are fits low =
    contents_covered shown banks contents k d (extents_tail (extent_of b) (range_of x) (map extent_of shown) (map range_of banks) are) (and_parts (nat_le (length c) x.size) (fit banks contents) fits).1 (omega (arith, low))

-- each bank is within its limits
pub each_within : (banks : List BankConfig) (k : ℕ) (d : BankConfig) → list_all is_within banks ≡ true → k < length banks → is_within (get_or banks k d) ≡ true
each_within [] k d is low = absurd (omega (arith, low))
each_within (x ∷ banks) zero d is low = (and_parts (is_within x) (list_all is_within banks) is).0
each_within (x ∷ banks) (suc k) d is low = each_within banks k d (and_parts (is_within x) (list_all is_within banks) is).1 (omega (arith, low))

-- at most 8 banks, each within its limits
pub banks_few : (banks : List BankConfig) → are_within banks ≡ true → length banks ≤ 8
banks_few banks is =
    leb-true (length banks) 8 (and_parts (nat_le 1 (length banks)) (nat_le (length banks) 8) (and_parts (nat_le 1 (length banks) && nat_le (length banks) 8) (list_all is_within banks) is).0).1

pub banks_within : (banks : List BankConfig) → are_within banks ≡ true → list_all is_within banks ≡ true
banks_within banks is = (and_parts (nat_le 1 (length banks) && nat_le (length banks) 8) (list_all is_within banks) is).1

-- what was found at the place of that number: the bank covers the bytes, and is within its limits
pub covered_found : (shown : List BankValue) (banks : List BankConfig) (contents : List (List ℕ)) (k place : ℕ) (d bank : BankConfig) (bytes : List ℕ) → map extent_of shown ≡ map range_of banks → fit banks contents ≡ true
    → k < length banks → place ≡ k → bank ≡ get_or banks place d → bytes ≡ slice_index_or contents place [] → covers_at shown k bank.base (length bytes) ≡ true
covered_found shown banks contents k place d bank bytes are fits low at own reported =
    ap (λ (b : BankConfig). covers_at shown k b.base (length bytes)) (own ∙ ap (λ (i : ℕ). get_or banks i d) at)
    ∙ ap (λ (l : List ℕ). covers_at shown k (get_or banks k d).base (length l)) (reported ∙ ap (λ (i : ℕ). slice_index_or contents i []) at)
    ∙ contents_covered shown banks contents k d are fits low

pub within_found : (banks : List BankConfig) (place : ℕ) (d bank : BankConfig) → are_within banks ≡ true → place < length banks → bank ≡ get_or banks place d → is_within bank ≡ true
within_found banks place d bank are low own = ap is_within own ∙ each_within banks place d (banks_within banks are) low
