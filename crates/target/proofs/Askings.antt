-- Lists that are alike except for their last items.
use Rattle.std.proofs.Common.{◌≡◌, List, [], ◌∷◌, ◌++◌, refl}

pub same_before : {A : Type 0} (xs ys : List A) (x y : A) → xs ++ x ∷ [] ≡ ys ++ y ∷ [] → xs ≡ ys
same_before [] [] x y e = refl
same_before [] (b ∷ []) x y e = absurd cc
same_before [] (b ∷ c ∷ ys) x y e = absurd cc
same_before (a ∷ []) [] x y e = absurd cc
same_before (a ∷ c ∷ xs) [] x y e = absurd cc
same_before (a ∷ xs) (b ∷ ys) x y e = let rest = same_before xs ys x y cc in cc

pub same_last : {A : Type 0} (xs ys : List A) (x y : A) → xs ++ x ∷ [] ≡ ys ++ y ∷ [] → x ≡ y
same_last [] [] x y e = cc
same_last [] (b ∷ []) x y e = absurd cc
same_last [] (b ∷ c ∷ ys) x y e = absurd cc
same_last (a ∷ []) [] x y e = absurd cc
same_last (a ∷ c ∷ xs) [] x y e = absurd cc
same_last (a ∷ xs) (b ∷ ys) x y e = same_last xs ys x y cc
