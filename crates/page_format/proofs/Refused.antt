-- Why bytes are refused.
use Rattle.std.proofs.Common.{◌≡◌, ◌++◌, ◌<◌, ◌∙◌, ℕ, Bool, false, true≢false, List, [], ◌∷◌, length, refl, sym, ap, subst, arith}
use Rattle.std.specs.Prelude.{◌==◌, reverse}
use Rattle.std.specs.Str.{IsUtf8}
use Rattle.std.proofs.lemmas.List.{append_assoc, length-append}
use Rattle.folders.specs.Folders.{FolderValue}
use Rattle.page_format.specs.Given.{IsNotGiven}
use Rattle.page_format.specs.Reading.{BeginsNoFile, BeginsNoPiece, BeginsNoWord, BeginsNoWords, BeginsNumber, BeginsPiece, BeginsWord, BeginsWords, IsNoFolder}
use Rattle.page_format.specs.Pieces.{AreFiles, AreShort, AreTextWords, files_bytes, number_bytes, piece_bytes, words_bytes}
use Rattle.page_format.proofs.Cutting.{file_cut, files_short, number_cut, piece_cut, piece_is_some, piece_long, words_cut}
use Rattle.page_format.proofs.Found.{AreRead}

-- too few bytes for a number
pub few_no_piece : (bytes : List ℕ) → length bytes < 4 → BeginsNoPiece bytes
few_no_piece bytes few = record {
  none = λ piece rest begins.
      let long : length bytes ≡ length (piece_bytes piece ++ rest) = ap (λ (b : List ℕ). length b) begins.is in
      omega (arith, few, long, piece_long piece rest);
}

-- fewer bytes than the number says
pub short_no_piece : (bytes rest : List ℕ) (n : ℕ) → BeginsNumber n rest bytes → length rest < n → BeginsNoPiece bytes
short_no_piece bytes rest n number few = record {
  none = λ piece after begins.
      let cut : (n ≡ length piece) × (rest ≡ piece ++ after) = number_cut n (length piece) rest (piece ++ after) number.fits begins.short
      (sym number.is ∙ begins.is ∙ append_assoc (number_bytes (length piece)) piece after) in
      let long : length rest ≡ length (piece ++ after) = ap (λ (b : List ℕ). length b) cut.1 in
      omega (arith, few, long, cut.0, length-append piece after);
}

-- a word is a piece
pub no_piece_no_word : (bytes : List ℕ) → BeginsNoPiece bytes → BeginsNoWord bytes
no_piece_no_word bytes no_piece = record {
  none = λ word rest begins. no_piece.none word rest (record { short = begins.word_is.short; is = begins.is });
}

-- the piece is not UTF-8
pub no_text_no_word : (bytes piece rest : List ℕ) → BeginsPiece piece rest bytes → ¬ (IsUtf8 piece) → BeginsNoWord bytes
no_text_no_word bytes piece rest begins no_text = record {
  none = λ word after named.
      let cut : (word ≡ piece) × (after ≡ rest) = piece_cut word piece after rest named.word_is.short begins.short (sym named.is ∙ begins.is) in
      no_text (subst (λ (w : List ℕ). IsUtf8 w) cut.0 named.word_is.text);
}

-- fewer words than others that the same bytes begin with, and no word after them
words_stop : (words others : List (List ℕ)) (rest more : List ℕ) → AreTextWords words → AreTextWords others → length words < length others
    → BeginsNoWord rest
    → words_bytes words ++ rest ≡ words_bytes others ++ more
    → ⊥
words_stop words [] rest more are is few no_word same = omega (arith, few)
words_stop [] (other ∷ others) rest more are is few no_word same =
    no_word.none other (words_bytes others ++ more) (record { word_is = is.0; is = same ∙ append_assoc (piece_bytes other) (words_bytes others) more })
words_stop (word ∷ words) (other ∷ others) rest more are is few no_word same =
    let first : (word ≡ other) × (words_bytes words ++ rest ≡ words_bytes others ++ more) =
    piece_cut word other (words_bytes words ++ rest) (words_bytes others ++ more) are.0.short is.0.short
    (sym (append_assoc (piece_bytes word) (words_bytes words) rest) ∙ same ∙ append_assoc (piece_bytes other) (words_bytes others) more) in
    words_stop words others rest more are.1 is.1 (omega (arith, few)) no_word first.1

pub too_few_words : (bytes rest : List ℕ) (words : List (List ℕ)) (done count : ℕ) → BeginsWords done words rest bytes → done < count → BeginsNoWord rest
    → BeginsNoWords count bytes
too_few_words bytes rest words done count begins few no_word = record {
  none = λ others more all.
      words_stop words others rest more begins.words_are all.words_are (omega (arith, few, begins.counted, all.counted)) no_word (sym begins.is ∙ all.is);
}

-- a file begins with a word
pub no_word_no_file : (bytes : List ℕ) → BeginsNoWord bytes → BeginsNoFile bytes
no_word_no_file bytes no_word = record {
  none = λ name content rest begins. no_word.none name (piece_bytes content ++ rest) (record { word_is = begins.name_is; is = begins.is });
}

-- a piece comes after it
pub no_piece_no_file : (bytes name middle : List ℕ) → BeginsWord name middle bytes → BeginsNoPiece middle → BeginsNoFile bytes
no_piece_no_file bytes name middle named no_piece = record {
  none = λ other content rest begins.
      let cut : (name ≡ other) × (middle ≡ piece_bytes content ++ rest) =
      piece_cut name other middle (piece_bytes content ++ rest) named.word_is.short begins.name_is.short (sym named.is ∙ begins.is) in
      no_piece.none content rest (record { short = begins.short; is = cut.1 });
}

-- files that were read of a folder, and no file after them, if bytes are left
files_stop : (files others : FolderValue) (rest : List ℕ) → AreShort files → AreFiles others → 0 < length rest → BeginsNoFile rest
    → files_bytes files ++ rest ≡ files_bytes others
    → ⊥
files_stop [] [] rest are is left no_file same =
    let none : length rest ≡ 0 = ap (λ (b : List ℕ). length b) same in
    omega (arith, left, none)
files_stop (file ∷ files) [] rest are is left no_file same =
    piece_is_some file.0 ((piece_bytes file.1 ++ files_bytes files) ++ rest)
    (sym same ∙ append_assoc (piece_bytes file.0) (piece_bytes file.1 ++ files_bytes files) rest)
files_stop [] (other ∷ others) rest are is left no_file same =
    no_file.none other.0 other.1 (files_bytes others) (record { name_is = is.0; short = is.1; is = same })
files_stop (file ∷ files) (other ∷ others) rest are is left no_file same =
    let first : (file.0 ≡ other.0) × (file.1 ≡ other.1) × (files_bytes files ++ rest ≡ files_bytes others) =
    file_cut file.0 other.0 file.1 other.1 (files_bytes files ++ rest) (files_bytes others) are.0 is.0.short are.1 is.1
    (ap (λ (r : List ℕ). piece_bytes file.0 ++ r) (sym (append_assoc (piece_bytes file.1) (files_bytes files) rest))
    ∙ sym (append_assoc (piece_bytes file.0) (piece_bytes file.1 ++ files_bytes files) rest)
    ∙ same) in
    files_stop files others rest are.2 is.2 left no_file first.2

-- what is not empty has bytes
pub some_left : (bytes : List ℕ) (t : Bool) → t ≡ (length bytes == 0) → t ≡ false → 0 < length bytes
some_left [] t is e = absurd (true≢false (sym is ∙ e))
some_left (b ∷ bytes) t is e = omega arith

pub no_file_no_folder : (bytes rest : List ℕ) (folder : FolderValue) → AreRead bytes folder rest → 0 < length rest → BeginsNoFile rest → IsNoFolder bytes
no_file_no_folder bytes rest folder read left no_file = record {
  none = λ other is.
      files_stop (reverse folder) (reverse other) rest (files_short (reverse folder) read.files_are) is.files_are left no_file (sym read.is ∙ is.is);
}

-- too few bytes for the number of words
pub few_not_given : (bytes : List ℕ) → length bytes < 4 → IsNotGiven bytes
few_not_given bytes few = record {
  none = λ words folder is.
      let long : length bytes ≡ length (number_bytes (length words) ++ (words_bytes words ++ files_bytes (reverse folder))) = ap (λ (b : List ℕ). length b) is.is in
      let four : length (number_bytes (length words)) ≡ 4 = refl in
      omega (arith, few, long, four, length-append (number_bytes (length words)) (words_bytes words ++ files_bytes (reverse folder)));
}

-- not as many words
pub no_words_not_given : (bytes rest : List ℕ) (count : ℕ) → BeginsNumber count rest bytes → BeginsNoWords count rest → IsNotGiven bytes
no_words_not_given bytes rest count number no_words = record {
  none = λ words folder is.
      let cut : (length words ≡ count) × (words_bytes words ++ files_bytes (reverse folder) ≡ rest) =
      number_cut (length words) count (words_bytes words ++ files_bytes (reverse folder)) rest is.counted number.fits (sym is.is ∙ number.is) in
      no_words.none words (files_bytes (reverse folder)) (record { counted = cut.0; words_are = is.words_are; is = sym cut.1 });
}

-- the words, and no folder after them
pub no_folder_not_given : (bytes rest after : List ℕ) (count : ℕ) (words : List (List ℕ)) → BeginsNumber count rest bytes → BeginsWords count words after rest
    → IsNoFolder after
    → IsNotGiven bytes
no_folder_not_given bytes rest after count words number begins no_folder = record {
  none = λ others folder is.
      let cut : (length others ≡ count) × (words_bytes others ++ files_bytes (reverse folder) ≡ rest) =
      number_cut (length others) count (words_bytes others ++ files_bytes (reverse folder)) rest is.counted number.fits (sym is.is ∙ number.is) in
      let later : (others ≡ words) × (files_bytes (reverse folder) ≡ after) =
      words_cut others words (files_bytes (reverse folder)) after is.words_are begins.words_are (cut.0 ∙ sym begins.counted) (cut.1 ∙ begins.is) in
      no_folder.none folder (record { files_are = is.files_are; is = sym later.1 });
}
