-- A port's line beside its shares.
use Rattle.std.proofs.Common.{◌≡◌, ◌≢◌, ◌⊎◌, inl, inr, ◌<◌, ◌==◌, ℕ, Bool, true, false, List, [], length, set, get_or, refl, sym, ap, ◌∙◌, subst, arith}
use Rattle.std.specs.Prelude.{IfNone, replicate}
use Rattle.std.specs.List.{range_with_len}
use Rattle.std.proofs.lemmas.List.{get_or_read, get_or-set_same, get_or-set_other, get_or-replicate, length-set, set-get_or}
use Rattle.std.proofs.lemmas.Bool.{cases_eq, and_parts}
use Rattle.std.proofs.lemmas.Bool.Decides.{nat_tests}
use Rattle.rmap.specs.declared.places.Place.{Place}
use Rattle.rmap.specs.declared.places.Place.TheVariants.{Bank}
use Rattle.bank.specs.declared.bank.Applied.{Applied}
use Rattle.bank.specs.Records.{ShareValue, JudgedValue, first_share, fits, is_place_of}
use Rattle.annals.specs.Chains.{LineValue}
use Rattle.annals.specs.Banks.{CountsOn, IsCountOf, IsRefusedAt, KeptValue, takes}
use Rattle.target.specs.Lines.{IsLineOf}

-- the share of a bank, read with another default
pub read_share : (port k : ℕ) (shares : List ShareValue) (share : ShareValue) → k < length shares → share ≡ get_or shares k share → share ≡ get_or shares k (first_share port)
read_share port k shares share below read = get_or_read shares k share below read (first_share port)

-- the port of a line that goes on with a share
pub same_port : (port k : ℕ) (shares : List ShareValue) (line : LineValue) (share : ShareValue) → IsLineOf port shares line → k < length shares → share ≡ get_or shares k share → line.port ≡ share.port
same_port port k shares line share is below read =
    is.line_is ∙ (sym (is.ports k below) ∙ ap (λ (s : ShareValue). s.port) (sym (read_share port k shares share below read)))

-- the command was done at its bank, or nothing changed
pub at_its_bank : (old new : KeptValue) (share after : ShareValue) (j : JudgedValue) (result : Applied) (reply : List ℕ) (line line' : LineValue) (k : ℕ) → j.place ≡ Bank k
    → (takes old share j ≡ false → IsRefusedAt old new share after j result reply) → IfNone result.number (line' ≡ line)
    → (k ≡ old.chain.number) ⊎ ((after ≡ share) × (line' ≡ line))
at_its_bank old new share after j result reply line line' k at refused unasked = by (takes old share j) refl where
  by : (b : Bool) → takes old share j ≡ b → (k ≡ old.chain.number) ⊎ ((after ≡ share) × (line' ≡ line))
  by true took =
      let placed : is_place_of old.chain.number j.place ≡ true = (and_parts (is_place_of old.chain.number j.place) (fits old.bank share j) took).0 in
      let here : (k == old.chain.number) ≡ true = subst (λ (p : Place). is_place_of old.chain.number p ≡ true) at placed in
      inl (grind (arith, nat_tests, here))
  by false left =
      let r = refused left in
      inr (r.share_is, subst (λ o. IfNone o (line' ≡ line)) r.number unasked)

-- a line goes on with the shares of its port
pub line_after : (port k bank : ℕ) (shares : List ShareValue) (share after : ShareValue) (line line' : LineValue) → IsLineOf port shares line → k < length shares → share ≡ get_or shares k share
    → CountsOn bank share after line line' → (k ≡ bank) ⊎ ((after ≡ share) × (line' ≡ line)) → IsLineOf port (set shares k after) line'
line_after port k bank shares share after line line' is below read on done = elim done [
  | inl here ↦ record {
    line_is = on.line ∙ is.line_is;
    ports = λ i low. ports i (subst (λ (n : ℕ). i < n) (length-set shares k after) low);
    counts = λ i low. counts here i (subst (λ (n : ℕ). i < n) (length-set shares k after) low);
  }
  | inr same ↦
      let all : set shares k after ≡ shares = ap (λ (s : ShareValue). set shares k s) (same.0 ∙ read_share port k shares share below read) ∙ set-get_or shares k (first_share port) in
      rw (all, same.1) (record { line_is = is.line_is; ports = is.ports; counts = is.counts })
]
  where
    first : ShareValue
    first = first_share port

    own : share ≡ get_or shares k first
    own = read_share port k shares share below read

    ports : (i : ℕ) → i < length shares → (get_or (set shares k after) i first).port ≡ port
    ports i low = elim (cases_eq k i) [
      | inl at ↦
          let new : get_or (set shares k after) i first ≡ after = rw (← at) (get_or-set_same shares k after first below) in
          ap (λ (s : ShareValue). s.port) new ∙ (on.port ∙ (ap (λ (s : ShareValue). s.port) own ∙ is.ports k below))
      | inr other ↦ ap (λ (s : ShareValue). s.port) (get_or-set_other shares k i after first (λ e. other (sym e))) ∙ is.ports i low
    ]

    counts : k ≡ bank → (i : ℕ) → i < length shares → IsCountOf (get_or (set shares k after) i first) i line'
    counts here i low = elim (cases_eq k i) [
      | inl at ↦
          let new : get_or (set shares k after) i first ≡ after = rw (← at) (get_or-set_same shares k after first below) in
          let before : IsCountOf share bank line = rw (own, ← here) (is.counts k below) in
          let now : IsCountOf after bank line' = on.counted before in
          let place : i ≡ bank = sym at ∙ here in
          rw (new, place) now
      | inr other ↦
          let same : get_or (set shares k after) i first ≡ get_or shares i first = get_or-set_other shares k i after first (λ e. other (sym e)) in
          let apart : i ≢ bank = λ e. other (here ∙ sym e) in
          rw (same, on.elsewhere i apart) (is.counts i low)
    ]

-- a line that asked for nothing is that of a port that has sent nothing
pub new_line : (port : ℕ) (shares : List ShareValue) → shares ≡ replicate (length shares) (first_share port) → IsLineOf port shares (record { port = port; asked = [] })
new_line port shares new = record {
  line_is = refl;
  ports = λ k below. ap (λ (s : ShareValue). s.port) (first k below);
  counts = λ k below. ap (λ (s : ShareValue). range_with_len 0 s.number) (sym (first k below));
}
  where
    first : (k : ℕ) → k < length shares → get_or shares k (first_share port) ≡ first_share port
    first k below = ap (λ (ss : List ShareValue). get_or ss k (first_share port)) new ∙ get_or-replicate (length shares) k (first_share port) (first_share port) below
