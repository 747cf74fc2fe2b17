-- The words of the toolchain's library that the definitions use: what each is, and a value of it that the checker computes.

use Rattle.std.specs.Prelude.{◌≡◌, ℕ, suc, ◌+◌, ◌-◌, ◌*◌, ◌/◌, ◌%◌, ◌^◌, min, true, false, cond, not, ◌&&◌}
use Rattle.std.specs.Prelude.{nat_eq, nat_lt, bit_xor, count_ones, List, [], ◌∷◌, ◌++◌, length, map, filter, fold, count_by, take, drop, replicate, codes}
use Rattle.std.specs.Prelude.{slice_index, slice_index_or, slice_get, slice_set, Option, None, Some, is_some, option_map, unwrap_or}
use Rattle.std.specs.Prelude.{Err, pos, negsuc, ◌-ℤ◌, neg_ℤ, int_lt, int_div}
use Rattle.std.specs.List.{concat, flat_map, range_with_len, slice_split, list_all, after_first, onto_first, starts_with}
use Rattle.std.specs.Option.{ok_or, option_or}
use Rattle.std.specs.Int.{w8, w16, cast_signed, cast_unsigned, to_le_bytes, swap_bytes, bit_at, bit_not, int_shr}
use Rattle.std.specs.Str.Parse.{digits_value, starts_with_minus}
use Rattle.std.specs.Char.{is_ascii_alphabetic}
use Rattle.std.proofs.Common.{refl}
use Rattle.byteorder.specs.Endian.{big_bytes, big_number}
use Rattle.hex.specs.Hex.{encode_upper, encode_with}

-- what the values below are of
abbrev xs : List ℕ
xs = 7 ∷ 8 ∷ []

abbrev ys : List ℕ
ys = 7 ∷ 0 ∷ 8 ∷ []

abbrev five : Option ℕ
five = Some 5

abbrev none : Option ℕ
none = None

-- ---- numbers

-- `+`, `*`, `<`, `≤` on ℕ: sum, product and order
value_1 : 2 + 3 * 4 ≡ 14
value_1 = refl

-- `-` on ℕ: the difference, and 0 if the second number is the greater
value_2 : 3 - 5 ≡ 0
value_2 = refl

-- `/`: the quotient without its rest, and 0 if the divisor is 0
value_3 : 7 / 0 ≡ 0
value_3 = refl

-- `%`: the rest of a division, and the number itself if the divisor is 0
value_4 : 7 % 0 ≡ 7
value_4 = refl

-- `^`: the power
value_5 : 2 ^ 10 ≡ 1024
value_5 = refl

-- `suc n`: the number after n; `zero` is 0
value_6 : suc 4 ≡ 5
value_6 = refl

-- `min`, `max`: the lesser and the greater of two numbers
value_7 : min 3 5 ≡ 3
value_7 = refl

-- `bit_and`, `bit_or`, `bit_xor`: bit by bit
value_8 : bit_xor 12 10 ≡ 6
value_8 = refl

-- `count_ones n`: how many bits of n are 1
value_ones : count_ones 13 ≡ 3
unfolding lib.Count.ones
value_ones = refl

-- `bit_at n i`: bit i of n, counted from the lowest, 0 or 1
value_9 : bit_at 8 3 ≡ 1
value_9 = refl

-- `w8`, `w16`, `w32`, `w64`: the widths of integers, in bits; `bit_not w n` turns each of the bits of n
value_10 : bit_not w8 0 ≡ 255
value_10 = refl

-- `leading_zeros w n`: how many bits before the highest that is set

-- `to_le_bytes w n`: the bytes of n, the least significant first
value_11 : to_le_bytes w16 258 ≡ 2 ∷ 1 ∷ []
value_11 = refl

-- `swap_bytes w n`: the number of the same bytes in the other order
value_12 : swap_bytes w16 258 ≡ 513
value_12 = refl

-- `big_bytes n x`: x in n bytes, the most significant first
value_13 : big_bytes 3 258 ≡ 0 ∷ 1 ∷ 2 ∷ []
value_13 = refl

-- `big_number n bytes`: the number of the first n bytes, the most significant first
value_14 : big_number 2 (1 ∷ 2 ∷ []) ≡ 258
value_14 = refl

-- ---- signed numbers

-- `ℤ`: `pos n` is n, and `negsuc n` is -(n + 1); `neg_ℤ z` is -z
value_15 : neg_ℤ (pos 1) ≡ negsuc 0
value_15 = refl

-- `+ℤ`, `-ℤ`, `≤ℤ`: sum, difference and order of signed numbers
value_16 : pos 3 -ℤ pos 5 ≡ negsuc 1
value_16 = refl

-- `cast_signed w n`: the signed number of the same bits, in two's complement
value_17 : cast_signed w8 255 ≡ negsuc 0
value_17 = refl

-- `cast_unsigned w z`: the bits of a signed number as a number
value_18 : cast_unsigned w8 (negsuc 0) ≡ 255
value_18 = refl

-- `FitsSigned w z`: the width has the number, from -2^(w - 1) to 2^(w - 1) - 1

-- `int_div`, `int_rem`: quotient towards zero, and its rest
value_19 : int_div (negsuc 6) (pos 2) ≡ negsuc 2
value_19 = refl

-- `int_shr z k`: a right shift that keeps the sign
value_20 : int_shr (negsuc 4) 1 ≡ negsuc 2
value_20 = refl

-- ---- tests

-- `Bool`: `true` or `false`

-- `nat_lt`, `nat_le`, `nat_eq` and `==`: whether a number is less, at most, equal
value_21 : nat_lt 3 3 ≡ false
value_21 = refl

-- `int_lt`, `int_le`, `int_eq`: the same of signed numbers
value_22 : int_lt (negsuc 0) (pos 0) ≡ true
value_22 = refl

-- `if b then x else y`, or `cond b x y`: x if b is true, else y
value_23 : cond false xs ys ≡ ys
value_23 = refl

-- `&&` and `not`: both, and the other
value_24 : not (true && false) ≡ true
value_24 = refl

-- `IsTrue b`: b is true; `x ≢ y`: x is not y

-- ---- lists

-- `[]` is the empty list, and `x ∷ xs` the list of x and what follows; `++` joins two
value_25 : xs ++ ys ≡ 7 ∷ 8 ∷ 7 ∷ 0 ∷ 8 ∷ []
value_25 = refl

-- `length xs`: how many items
value_26 : length xs ≡ 2
value_26 = refl

-- `slice_index xs i`: the number at place i, counted from 0, and 0 past the end
value_27 : slice_index xs 2 ≡ 0
value_27 = refl

-- `slice_index_or xs i d`: the item at place i, and d past the end
value_28 : slice_index_or xs 1 0 ≡ 8
value_28 = refl

-- `slice_get xs i`: the item at place i, if there is one
value_29 : slice_get xs 2 ≡ None
value_29 = refl

-- `slice_set xs i x`: the list with x at place i, and the same list if there is no such place
value_30 : slice_set xs 1 9 ≡ 7 ∷ 9 ∷ []
value_30 = refl

-- `take n xs`: the first n items, or all if there are fewer
value_31 : take 3 xs ≡ 7 ∷ 8 ∷ []
value_31 = refl

-- `drop n xs`: what is left without the first n
value_32 : drop 1 xs ≡ 8 ∷ []
value_32 = refl

-- `map f xs`: f of each item
value_33 : map (λ n. n + 1) xs ≡ 8 ∷ 9 ∷ []
value_33 = refl

-- `flat_map f xs`: the lists that f gives of each item, joined
value_34 : flat_map (λ n. n ∷ n ∷ []) xs ≡ 7 ∷ 7 ∷ 8 ∷ 8 ∷ []
value_34 = refl

-- `concat lists`: the items of each list, those of the first before those of the next
value_54 : concat (xs ∷ ys ∷ []) ≡ 7 ∷ 8 ∷ 7 ∷ 0 ∷ 8 ∷ []
value_54 = refl

-- `filter p xs`: the items at which p is true
value_35 : filter (nat_lt 7) xs ≡ 8 ∷ []
value_35 = refl

-- `fold f a xs`: a, and then f of what there is and the next item, item by item
value_36 : fold (λ a n. 10 * a + n) 0 xs ≡ 78
value_36 = refl

-- `sum xs`, `sum_by f xs`, `count_by p xs`: the sum of the items, of f of them, and at how many p is true
value_37 : count_by (nat_lt 7) xs ≡ 1
value_37 = refl

-- `list_all p xs`, `list_any p xs`: whether p is true at each item, at some item
value_38 : list_all (nat_lt 7) xs ≡ false
value_38 = refl

-- `replicate n x`: n times x
value_39 : replicate 2 xs ≡ xs ∷ xs ∷ []
value_39 = refl

-- `range_with_len a n`: n numbers from a on
value_40 : range_with_len 4 3 ≡ 4 ∷ 5 ∷ 6 ∷ []
value_40 = refl

-- `slice_split p xs`: the parts between the items at which p is true; one part more than there are such items
value_41 : slice_split (nat_eq 0) ys ≡ take 1 xs ∷ drop 1 xs ∷ []
value_41 = refl

-- `onto_first x parts`: the parts with x put before the first
value_42 : onto_first 6 (xs ∷ []) ≡ (6 ∷ xs) ∷ []
value_42 = refl

-- `before_first p xs`, `after_first p xs`: what is before and after the first item at which p is true
value_43 : after_first (nat_eq 0) ys ≡ 8 ∷ []
value_43 = refl

-- `starts_with eq xs ys`: whether xs begins with ys
value_44 : starts_with nat_eq xs (take 1 ys) ≡ true
value_44 = refl

-- `IsPrefix xs ys`: ys begins with xs; `IsPermutation xs ys`: the same items in another order, each as often

-- `All P xs`: P holds of each item

-- ---- what may be missing

-- `Option`: `None`, or `Some x`; `is_some`, `is_none` are the tests, `IsSome` that the first is true
value_45 : is_some five ≡ true
value_45 = refl

-- `option_map f o`: f of what there is
value_46 : option_map suc five ≡ Some 6
value_46 = refl

-- `unwrap_or o d`: what there is, or else d
value_47 : unwrap_or none 4 ≡ 4
value_47 = refl

-- `option_or o p`: the first of both that there is
value_48 : option_or none five ≡ five
value_48 = refl

-- `Result`: `Ok x`, or `Err e`; `ok_or o e` makes one of an `Option`
value_49 : ok_or {E = ℕ} none 4 ≡ Err 4
value_49 = refl

-- `IfSome o P`, `IfOk r P`, `IfErr r P`: P of what there is, and nothing asked if there is nothing

-- `IfNone o P`: P if there is nothing

-- `OnOk r P`, `OnErr r P`: P if the result is an `Ok`, an `Err`, whatever it holds

-- `MatchOption o P Q`: P if there is nothing, Q of what there is; `MatchResult r P Q`: P of an `Ok`, Q of an `Err`

-- `MatchBool b P Q`: P if b is true, Q if not

-- `⊤` holds always

-- ---- text

-- `codes "..."`: the bytes of a text
value_50 : codes "AB" ≡ 65 ∷ 66 ∷ []
value_50 = refl

-- `string_bytes s`: the bytes of a `String`

-- `decimal n`: the digits of a number

-- `encode_upper bs`: two hexadecimal digits a byte, in capitals
value_55 : encode_upper (10 ∷ 255 ∷ []) ≡ codes "0AFF"
unfolding encode_with
value_55 = refl

-- `digits_value radix ds`: the number that digits write
value_51 : digits_value 16 (codes "ff") ≡ 255
value_51 = refl

-- `AllDigits radix ds`: each byte is a digit of that radix; `IsNumeral`: and there is one at least

-- `starts_with_minus bs`: whether the text begins with a minus sign
value_52 : starts_with_minus (codes "-1") ≡ true
value_52 = refl

-- `is_ascii_alphabetic`, `is_ascii_alphanumeric`: a letter from A to Z in either case; or a digit
value_53 : is_ascii_alphabetic 65 ≡ true
value_53 = refl

-- `IsUtf8 bs`: the bytes are a text in UTF-8

-- `bytes_eq a b`: whether two texts have the same bytes

-- `digit_value b`: the number that a digit or a letter writes, 0 to 35, and 36 of any other code

-- `RFindsChar`: where a character is last in a text; `SplitsAroundMatch`: what is before it and after it

-- `to_be_bytes w n`: the bytes of a number of that width, the most significant first

-- ---- TOML

-- `parse_document bs`: the table that a text in TOML is, if it is one

-- `Data`: a value; `as_str`, `as_integer`, `as_bool`, `as_array`, `as_table`: the text, number, truth, list or table that it is, if it is one

-- `Items`: the values of a list; `no_items`: none; `item x xs`: one, and others after it

-- `Members`: the keys of a table with their values; `no_members`: none; `member k x ms`: one, and others after it;
-- `get_member k ms`: the value of a key, if there is one

-- ---- what threads share

-- `Gv`: a value of any type, by which a seat says of which table it is; `gnil`: the one that says nothing

-- `IsPassOf queue pass`: the pass was made for that queue; `IsSamePass`: two moments of one pass; `view pass`: what its holder did at the queue so far

-- `ruled_capacity queue`: how many items the queue has room for

-- ---- what is lent, read and written

-- `Bor T`: what is lent to be read, a T

-- `Appends old new bs`: what a writer holds, if that is known, grew by bs
