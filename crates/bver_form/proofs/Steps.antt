-- What a step takes from what is left of one instruction: forward, and along a back jump.
use Rattle.std.proofs.Common.{◌≡◌, ◌≢◌, ◌⊎◌, inl, inr, ℕ, ◌+◌, ◌-◌, ◌*◌, ◌<◌, ◌≤◌, true, List, [], ◌∷◌, refl, sym, subst, ◌∙◌, arith}
use Rattle.std.specs.Prelude.{All, nat_le, if◌then◌else◌}
use Rattle.std.proofs.lemmas.Bool.{cases_eq, true≢false}
use Rattle.bpf.specs.declared.loops.Loop.{Loop}
use Rattle.bpf.specs.Weight.{times_at}
use Rattle.bver_form.specs.Loops.{ComesIn, IsCounted, further_passes, holds, executions_left}
use Rattle.bver_form.proofs.Left.{low, high, held, not_before, before, within, following, place, outside, left_out, left_before, left_after_loop, left_within, further_back, further_else, more_times, rounds, tail_all, head_all, AreLaid, left_ahead, left_here}
use Rattle.lemmas.proofs.Cases.{by_test, by_le}

-- one is taken from the instruction at the slot, and nothing need be taken from the others
abbrev pub IsTaken : (i k e : ℕ) → Type 0
IsTaken i k e = (e ≡ 0) ⊎ ((e ≡ 1) × (i ≡ k))

-- nothing need be taken from an instruction elsewhere
nothing : (i k e : ℕ) → IsTaken i k e → i ≢ k → e ≡ 0
nothing i k e (inl none) d = none
nothing i k e (inr one) d = absurd (d one.1)

-- what is taken is at most what is left
there : (ls : List Loop) (v : ℕ → ℕ) (i k e : ℕ) → IsTaken i k e → e ≤ executions_left ls v i k
there ls v i k e (inl none) = omega arith
there ls v i k e (inr one) = let here = left_here ls v k in let is = one.0 in subst (λ j. e ≤ executions_left ls v j k) (sym one.1) (omega arith)

-- a loop that holds both slots: the same rounds are left, and the others take one
keeps : (f g t x y e : ℕ) → f ≤ g → x + e ≤ y → f * t + x + e ≤ g * t + y
keeps f g t x y e h n = omega (arith, more_times f g t h)

-- a round begins: the rounds after it, and no more than a whole one
begins : (f b t x : ℕ) → f + 1 ≤ b → x ≤ t → f * t + x ≤ b * t
begins f b t x h n = rounds f b t x h n

plus : (a x e : ℕ) → e ≤ x → 0 + e ≤ a + x
plus a x e h = omega arith

-- what is left of a loop that holds both slots of a step forward
same_further : (l : Loop) (k next was is : ℕ) → IsCounted l k next was is → ComesIn l k next → k < next → holds l k ≡ true → holds l next ≡ true → further_passes l is next ≤ further_passes l was k
same_further l k next was is counted comes onward here ahead =
    let top = high l next ahead in
    rw (further_else l was k (λ e. omega arith))
    (elim (cases_eq next l.back) [
      | inl last ↦
          let before_it = comes.to_back last in
          let steps = counted.steps here ahead before_it in
          rw (further_back l is next last) (omega arith)
      | inr other ↦
          let stays = counted.stays here ahead (λ e. other (omega arith)) in
          rw (further_else l is next other) (omega arith)
    ])

-- the slots are the back and the head of a loop of the list
abbrev pub IsBackOf : (slot next : ℕ) → List Loop → Type 0
IsBackOf slot next [] = ⊥
IsBackOf slot next (l ∷ ls) = ((slot ≡ l.back) × (next ≡ l.head)) ⊎ IsBackOf slot next ls

module _ (v w : ℕ → ℕ) (i k next e : ℕ) where
  -- ---- forward

  onward_end : k < next → IsTaken i k e → executions_left [] w i next + e ≤ executions_left [] v i k
  unfolding executions_left
  onward_end onward taken =
      by_le (λ t. (if t then 1 else 0) + e ≤ (if nat_le k i then 1 else 0)) next i
      (λ a. let none = nothing i k e taken (λ s. omega arith) in by_le (λ t. 1 + e ≤ (if t then 1 else 0)) k i (λ _. omega arith) (λ b. absurd (omega arith)))
      (λ a. by_le (λ t. 0 + e ≤ (if t then 1 else 0)) k i (λ b. at_most taken) (λ b. let none = nothing i k e taken (λ s. omega arith) in omega arith))
    where
      at_most : IsTaken i k e → 0 + e ≤ 1
      at_most (inl none) = omega arith
      at_most (inr one) = let is = one.0 in omega arith

  -- into a loop, through its head
  enters : (l : Loop) (ls : List Loop) (least : ℕ) → AreLaid least (l ∷ ls) → IsCounted l k next (v l.head) (w l.head) → ComesIn l k next → IsTaken i k e → holds l i ≡ true → k < l.head → holds l next ≡ true → executions_left (l ∷ ls) w i next + e ≤ executions_left (l ∷ ls) v i k
  enters l ls least laid counted comes taken e_i a ahead =
      let from = low l i e_i in
      let none = nothing i k e taken (λ s. omega arith) in
      let at_head = comes.to_head (not_before l k a) ahead in
      let bounded = counted.enters (not_before l k a) ahead in
      let ordered = laid.1 in
      let some = laid.2 in
      let others = left_ahead ls (l.head + 1) laid.4 w i next (omega arith) in
      let round = begins (w l.head - 1) l.bound (times_at ls i) (executions_left ls w i next) (omega arith) others in
      rw (left_within l ls w i next e_i (low l next ahead) (high l next ahead), further_else l (w l.head) next (λ s. omega arith), left_before l ls v i k e_i a, none) (no_more round)
    where
      no_more : {a b : ℕ} → a ≤ b → a + 0 ≤ b
      no_more h = omega arith

  onward_at : (l : Loop) (ls : List Loop) (least : ℕ) → AreLaid least (l ∷ ls) → IsCounted l k next (v l.head) (w l.head) → ComesIn l k next → k < next → IsTaken i k e → executions_left ls w i next + e ≤ executions_left ls v i k → holds l i ≡ true → executions_left (l ∷ ls) w i next + e ≤ executions_left (l ∷ ls) v i k
  onward_at l ls least laid counted comes onward taken others e_i =
      let from = low l i e_i in
      let to = high l i e_i in
      elim (place l k) [
        | before a ↦
            elim (place l next) [
              | before b ↦ let none = nothing i k e taken (λ s. omega arith) in rw (left_before l ls w i next e_i b, left_before l ls v i k e_i a) (omega (arith, none))
              | within b c ↦ enters l ls least laid counted comes taken e_i a (held l next b c)
              | following b ↦ let none = nothing i k e taken (λ s. omega arith) in rw (left_after_loop l ls w i next e_i laid.1 b) (omega (arith, none))
            ]
        | within a b ↦
            elim (place l next) [
              | before c ↦ absurd (omega arith)
              | within c d ↦
                  rw (left_within l ls w i next e_i c d, left_within l ls v i k e_i a b)
                  (keeps (further_passes l (w l.head) next) (further_passes l (v l.head) k) (times_at ls i) (executions_left ls w i next) (executions_left ls v i k) e (same_further l k next (v l.head) (w l.head) counted comes onward (held l k a b) (held l next c d)) others)
              | following c ↦
                  rw (left_after_loop l ls w i next e_i laid.1 c, left_within l ls v i k e_i a b)
                  (plus (further_passes l (v l.head) k * times_at ls i) (executions_left ls v i k) e (there ls v i k e taken))
            ]
        | following a ↦ let none = nothing i k e taken (λ s. omega arith) in rw (left_after_loop l ls w i next e_i laid.1 (omega arith)) (omega (arith, none))
      ]

  pub goes_onward : (ls : List Loop) (least : ℕ) → AreLaid least ls → All (λ l. IsCounted l k next (v l.head) (w l.head)) ls → All (λ l. ComesIn l k next) ls → k < next → IsTaken i k e → executions_left ls w i next + e ≤ executions_left ls v i k
  goes_onward [] least laid counted comes onward taken = onward_end onward taken
  goes_onward (l ∷ ls) least laid counted comes onward taken =
      let others = goes_onward ls (l.head + 1) laid.4 (tail_all (λ l. IsCounted l k next (v l.head) (w l.head)) l ls counted) (tail_all (λ l. ComesIn l k next) l ls comes) onward taken in
      by_test (λ t. holds l i ≡ t → executions_left (l ∷ ls) w i next + e ≤ executions_left (l ∷ ls) v i k) (holds l i)
      (λ _ e_i. onward_at l ls least laid (head_all (λ l. IsCounted l k next (v l.head) (w l.head)) l ls counted) (head_all (λ l. ComesIn l k next) l ls comes) onward taken others e_i)
      (λ _ e_i. rw (left_out l ls w i next e_i, left_out l ls v i k e_i) others)
      refl

  -- ---- along the back jump of a loop of the list

  around_end : (l : Loop) → next ≡ l.head → k ≡ l.back → l.head < l.back → (i < l.head) ⊎ (l.back < i) → executions_left [] w i next ≤ executions_left [] v i k
  unfolding executions_left
  around_end l to from ordered out =
      by_le (λ t. (if t then 1 else 0) ≤ (if nat_le k i then 1 else 0)) next i
      (λ a. by_le (λ t. 1 ≤ (if t then 1 else 0)) k i (λ _. omega arith) (λ b. absurd (elim out [ inl c ↦ omega arith | inr c ↦ omega arith ])))
      (λ a. omega arith)

  -- an instruction outside the loop has as much left
  around : (l : Loop) (ls : List Loop) (least : ℕ) → AreLaid least ls → l.head < least → All (λ m. (l.back < m.head) ⊎ (m.back < l.back)) ls → next ≡ l.head → k ≡ l.back → l.head < l.back → (i < l.head) ⊎ (l.back < i) → executions_left ls w i next ≤ executions_left ls v i k
  around l [] least laid least_above apart to from ordered out = around_end l to from ordered out
  around l (m ∷ ms) least laid above apart to from ordered out =
      by_test (λ t. holds m i ≡ t → executions_left (m ∷ ms) w i next ≤ executions_left (m ∷ ms) v i k) (holds m i)
      (λ _ e_i.
      let bottom = low m i e_i in
      let top = high m i e_i in
      let after = laid.0 in
      elim (head_all (λ m. (l.back < m.head) ⊎ (m.back < l.back)) m ms apart) [
        | inl after_it ↦ rw (left_before m ms w i next e_i (omega arith), left_before m ms v i k e_i (omega arith)) (omega arith)
        | inr inside ↦ absurd (elim out [ inl c ↦ omega arith | inr c ↦ omega arith ])
      ])
      (λ _ e_i.
      let after = laid.0 in
      rw (left_out m ms w i next e_i, left_out m ms v i k e_i)
      (around l ms (m.head + 1) laid.4 (omega arith) (tail_all (λ m. (l.back < m.head) ⊎ (m.back < l.back)) m ms apart) to from ordered out))
      refl

  -- the loop's own back jump
  closes : (l : Loop) (ls : List Loop) (least : ℕ) → AreLaid least (l ∷ ls) → IsCounted l k next (v l.head) (w l.head) → IsTaken i k e → k ≡ l.back → next ≡ l.head → executions_left (l ∷ ls) w i next + e ≤ executions_left (l ∷ ls) v i k
  closes l ls least laid counted taken from to =
      let ordered = laid.1 in
      by_test (λ t. holds l i ≡ t → executions_left (l ∷ ls) w i next + e ≤ executions_left (l ∷ ls) v i k) (holds l i)
      (λ _ e_i.
      let some = counted.again from to in
      let stays = counted.stays (held l k (omega arith) (omega arith)) (held l next (omega arith) (omega arith)) (λ s. omega arith) in
      let others = left_ahead ls (l.head + 1) laid.4 w i next (omega arith) in
      let round = begins (w l.head - 1) (v l.head) (times_at ls i) (executions_left ls w i next) (omega arith) others in
      rw (left_within l ls w i next e_i (omega arith) (omega arith), left_within l ls v i k e_i (omega arith) (omega arith), further_else l (w l.head) next (λ s. omega arith), further_back l (v l.head) k from)
      (both round (there ls v i k e taken)))
      (λ _ e_i.
      let none = nothing i k e taken (λ s. true≢false (sym (held l i (omega arith) (omega arith)) ∙ e_i)) in
      rw (left_out l ls w i next e_i, left_out l ls v i k e_i, none)
      (no_more (around l ls (l.head + 1) laid.4 (omega arith) laid.3 to from ordered (outside l i e_i))))
      refl
    where
      both : {a b c d : ℕ} → a ≤ b → c ≤ d → a + c ≤ b + d
      both h n = omega arith

      no_more : {a b : ℕ} → a ≤ b → a + 0 ≤ b
      no_more h = omega arith

  -- what is left of a loop that holds both slots
  less_further : (l : Loop) → IsCounted l k next (v l.head) (w l.head) → k < l.back → next ≤ k → holds l k ≡ true → holds l next ≡ true → further_passes l (w l.head) next ≤ further_passes l (v l.head) k
  less_further l counted inside backward here ahead =
      rw (further_else l (w l.head) next (λ s. omega arith), further_else l (v l.head) k (λ s. omega arith))
      (elim (cases_eq (k + 1) l.back) [
        | inl last ↦ let steps = counted.steps here ahead last in omega arith
        | inr other ↦ let stays = counted.stays here ahead other in omega arith
      ])

  -- the back jump of a later loop, which is nested in the first or after it
  outer : (l : Loop) (ls : List Loop) (least : ℕ) → AreLaid least (l ∷ ls) → IsCounted l k next (v l.head) (w l.head) → IsTaken i k e → l.head < next → next ≤ k → (l.back < next) ⊎ (k < l.back) → executions_left ls w i next + e ≤ executions_left ls v i k → executions_left (l ∷ ls) w i next + e ≤ executions_left (l ∷ ls) v i k
  outer l ls least laid counted taken after backward where_ others =
      by_test (λ t. holds l i ≡ t → executions_left (l ∷ ls) w i next + e ≤ executions_left (l ∷ ls) v i k) (holds l i)
      (λ _ e_i.
      let top = high l i e_i in
      elim where_ [
        | inl past ↦
            let none = nothing i k e taken (λ s. omega arith) in
            rw (left_after_loop l ls w i next e_i laid.1 past) (omega (arith, none))
        | inr inside ↦
            rw (left_within l ls w i next e_i (omega arith) (omega arith), left_within l ls v i k e_i (omega arith) (omega arith))
            (keeps (further_passes l (w l.head) next) (further_passes l (v l.head) k) (times_at ls i) (executions_left ls w i next) (executions_left ls v i k) e (less_further l counted inside backward (held l k (omega arith) (omega arith)) (held l next (omega arith) (omega arith))) others)
      ])
      (λ _ e_i. rw (left_out l ls w i next e_i, left_out l ls v i k e_i) others)
      refl

  later_head : (ls : List Loop) (least : ℕ) → AreLaid least ls → IsBackOf k next ls → (least ≤ next) × (next ≤ k)
  later_head [] least laid back = absurd back
  later_head (l ∷ ls) least laid (inl here) = let a = laid.0 in let b = laid.1 in let c = here.0 in let d = here.1 in (omega arith, omega arith)
  later_head (l ∷ ls) least laid (inr more) = let a = laid.0 in let h = later_head ls (l.head + 1) laid.4 more in let b = h.0 in (omega arith, h.1)

  apart_from : (l : Loop) (ls : List Loop) → All (λ m. (l.back < m.head) ⊎ (m.back < l.back)) ls → IsBackOf k next ls → (l.back < next) ⊎ (k < l.back)
  apart_from l [] apart back = absurd back
  apart_from l (m ∷ ms) apart (inl here) =
      let c = here.0 in
      let d = here.1 in
      elim (head_all (λ m. (l.back < m.head) ⊎ (m.back < l.back)) m ms apart) [ inl a ↦ inl (omega arith) | inr a ↦ inr (omega arith) ]
  apart_from l (m ∷ ms) apart (inr more) = apart_from l ms (tail_all (λ m. (l.back < m.head) ⊎ (m.back < l.back)) m ms apart) more

  pub goes_back : (ls : List Loop) (least : ℕ) → AreLaid least ls → All (λ l. IsCounted l k next (v l.head) (w l.head)) ls → IsBackOf k next ls → IsTaken i k e → executions_left ls w i next + e ≤ executions_left ls v i k
  goes_back [] least laid counted back taken = absurd back
  goes_back (l ∷ ls) least laid counted (inl here) taken = closes l ls least laid (head_all (λ l. IsCounted l k next (v l.head) (w l.head)) l ls counted) taken here.0 here.1
  goes_back (l ∷ ls) least laid counted (inr more) taken =
      let others = goes_back ls (l.head + 1) laid.4 (tail_all (λ l. IsCounted l k next (v l.head) (w l.head)) l ls counted) more taken in
      let bounds = later_head ls (l.head + 1) laid.4 more in
      let above = bounds.0 in
      outer l ls least laid (head_all (λ l. IsCounted l k next (v l.head) (w l.head)) l ls counted) taken (omega arith) bounds.1 (apart_from l ls laid.3 more) others
