-- Reading at the beginning of bytes.
use Rattle.std.proofs.Common.{◌≡◌, ◌++◌, ◌+◌, ◌*◌, ◌<◌, ◌≤◌, ◌^◌, ◌∙◌, ℕ, zero, suc, List, [], ◌∷◌, length, take, drop, get_or, refl, sym, ap, subst, arith, lit<}
use Rattle.std.specs.Prelude.{reverse}
use Rattle.std.specs.Borrow.{Bor}
use Rattle.std.specs.Int.{w32, from_le_bytes, to_le_bytes}
use Rattle.std.specs.Str.{IsUtf8}
use Rattle.std.proofs.lemmas.Nat.{le_bytes_4}
use Rattle.std.proofs.lemmas.List.{append_assoc, append-nil, length_push, map-append, reverse-append}
use Rattle.folders.specs.Folders.{FolderValue}
use Rattle.page_format.specs.Given.{IsHostGiven}
use Rattle.page_format.specs.Reading.{BeginsFile, BeginsNumber, BeginsPiece, BeginsWord, BeginsWords, IsFolderOf}
use Rattle.page_format.specs.Pieces.{AreFiles, AreTextWords, IsShortPiece, IsWordPiece, files_bytes, number_bytes, piece_bytes, words_bytes, words_value}

each_below : (a b c d : ℕ) (tail : List ℕ) → ((i : ℕ) → get_or (a ∷ b ∷ c ∷ d ∷ tail) i 0 < 256) → (i : ℕ) → get_or (a ∷ b ∷ c ∷ d ∷ []) i 0 < 256
each_below a b c d tail each zero = each 0
each_below a b c d tail each (suc zero) = each 1
each_below a b c d tail each (suc (suc zero)) = each 2
each_below a b c d tail each (suc (suc (suc zero))) = each 3
each_below a b c d tail each (suc (suc (suc (suc i)))) = lit< tt

fits_4 : (a b c d n : ℕ) → a < 256 → b < 256 → c < 256 → d < 256 → n ≡ a + b * 256 + c * 65536 + d * 16777216 → n < 2 ^ 32
fits_4 a b c d n a' b' c' d' is = omega arith

-- four bytes are the number that is read of them
pub number_found : (bytes rest : List ℕ) (n : ℕ) → 4 ≤ length bytes → ((i : ℕ) → get_or bytes i 0 < 256) → n ≡ from_le_bytes w32 (take 4 bytes) → rest ≡ drop 4 bytes
    → BeginsNumber n rest bytes
number_found [] rest n long each is after = absurd (omega (arith, long))
number_found (a ∷ []) rest n long each is after = absurd (omega (arith, long))
number_found (a ∷ b ∷ []) rest n long each is after = absurd (omega (arith, long))
number_found (a ∷ b ∷ c ∷ []) rest n long each is after = absurd (omega (arith, long))
number_found (a ∷ b ∷ c ∷ d ∷ tail) rest n long each is after = record {
  fits = fits_4 a b c d n (each 0) (each 1) (each 2) (each 3) is;
  is = subst (λ (r : List ℕ). (a ∷ b ∷ c ∷ d ∷ tail) ≡ to_le_bytes w32 n ++ r) (sym after)
      (ap (λ (head : List ℕ). head ++ tail) (sym (le_bytes_4 (a ∷ b ∷ c ∷ d ∷ []) n refl (each_below a b c d tail each) is)));
}

-- a piece comes after its length
pub piece_found : (bytes rest piece after : List ℕ) (n : ℕ) → BeginsNumber n rest bytes → rest ≡ piece ++ after → length piece ≡ n
    → BeginsPiece piece after bytes
piece_found bytes rest piece after n begins cut long = record {
  short = subst (λ (k : ℕ). k < 2 ^ 32) (sym long) begins.fits;
  is = begins.is ∙ ap (λ (r : List ℕ). number_bytes n ++ r) cut
      ∙ ap (λ (k : ℕ). number_bytes k ++ (piece ++ after)) (sym long)
      ∙ sym (append_assoc (number_bytes (length piece)) piece after);
}

-- a piece is a word if it is UTF-8
pub word_found : (bytes rest piece word : List ℕ) → BeginsPiece piece rest bytes → word ≡ piece → IsUtf8 piece → BeginsWord word rest bytes
word_found bytes rest piece word begins same text = subst (λ (w : List ℕ). BeginsWord w rest bytes) (sym same) (record {
  word_is = record { short = begins.short; text = text };
  is = begins.is;
})

-- one word more
words_snoc : (words : List (List ℕ)) (word : List ℕ) → words_bytes (words ++ (word ∷ [])) ≡ words_bytes words ++ piece_bytes word
words_snoc [] word = append-nil (piece_bytes word)
words_snoc (first ∷ words) word = ap (λ (r : List ℕ). piece_bytes first ++ r) (words_snoc words word)
    ∙ sym (append_assoc (piece_bytes first) (words_bytes words) (piece_bytes word))

are_words_snoc : (words : List (List ℕ)) (word : List ℕ) → AreTextWords words → IsWordPiece word → AreTextWords (words ++ (word ∷ []))
are_words_snoc [] word are is = (is, tt)
are_words_snoc (first ∷ words) word are is = (are.0, are_words_snoc words word are.1 is)

pub no_words_found : (bytes : List ℕ) (words : List (Bor (List ℕ))) → words ≡ [] → BeginsWords 0 (words_value words) bytes bytes
no_words_found bytes words none =
    subst (λ (all : List (Bor (List ℕ))). BeginsWords 0 (words_value all) bytes bytes) (sym none) (record { counted = refl; words_are = tt; is = refl })

pub words_found : (bytes rest : List ℕ) (words : List (List ℕ)) (done count : ℕ) → BeginsWords done words rest bytes → done ≡ count → BeginsWords count words rest bytes
words_found bytes rest words done count begins same = subst (λ (n : ℕ). BeginsWords n words rest bytes) same begins

one_word_found : (bytes rest word after : List ℕ) (words : List (List ℕ)) (count : ℕ) → BeginsWords count words rest bytes → BeginsWord word after rest
    → BeginsWords (count + 1) (words ++ (word ∷ [])) after bytes
one_word_found bytes rest word after words count begins named = record {
  counted = length_push words word ∙ ap (λ (n : ℕ). n + 1) begins.counted;
  words_are = are_words_snoc words word begins.words_are named.word_is;
  is = begins.is ∙ ap (λ (r : List ℕ). words_bytes words ++ r) named.is
      ∙ sym (append_assoc (words_bytes words) (piece_bytes word) after)
      ∙ ap (λ (r : List ℕ). r ++ after) (sym (words_snoc words word));
}

pub word_pushed : (bytes rest after : List ℕ) (word : Bor (List ℕ)) (words more : List (Bor (List ℕ))) (count : ℕ)
    → BeginsWords count (words_value words) rest bytes → BeginsWord word.now after rest
    → more ≡ words ++ (word ∷ [])
    → BeginsWords (count + 1) (words_value more) after bytes
word_pushed bytes rest after word words more count begins named push =
    subst (λ (all : List (List ℕ)). BeginsWords (count + 1) all after bytes) (sym (ap (λ (all : List (Bor (List ℕ))). words_value all) push ∙ map-append (λ (w : Bor (List ℕ)). w.now) words (word ∷ [])))
    (one_word_found bytes rest word.now after (words_value words) count begins named)

-- a file is a word and a piece
pub file_found : (bytes middle rest name content : List ℕ) → BeginsWord name middle bytes → BeginsPiece content rest middle → BeginsFile name content rest bytes
file_found bytes middle rest name content named own = record {
  name_is = named.word_is;
  short = own.short;
  is = named.is ∙ ap (λ (r : List ℕ). piece_bytes name ++ r) own.is;
}

-- these files of a folder were read, and this is left
pub record AreRead (bytes : List ℕ) (folder : FolderValue) (rest : List ℕ) : Type 0 where
  pub files_are : AreFiles (reverse folder)
  pub is : bytes ≡ files_bytes (reverse folder) ++ rest

-- one file more
files_snoc : (files : FolderValue) (name content : List ℕ) → files_bytes (files ++ ((name, content) ∷ [])) ≡ files_bytes files ++ (piece_bytes name ++ piece_bytes content)
files_snoc [] name content = ap (λ (r : List ℕ). piece_bytes name ++ r) (append-nil (piece_bytes content))
files_snoc (file ∷ files) name content =
    let end = piece_bytes name ++ piece_bytes content in
    ap (λ (r : List ℕ). piece_bytes file.0 ++ (piece_bytes file.1 ++ r)) (files_snoc files name content)
    ∙ ap (λ (r : List ℕ). piece_bytes file.0 ++ r) (sym (append_assoc (piece_bytes file.1) (files_bytes files) end))
    ∙ sym (append_assoc (piece_bytes file.0) (piece_bytes file.1 ++ files_bytes files) end)

are_files_snoc : (files : FolderValue) (name content : List ℕ) → AreFiles files → IsWordPiece name → IsShortPiece content → AreFiles (files ++ ((name, content) ∷ []))
are_files_snoc [] name content are is short = (is, short, tt)
are_files_snoc (file ∷ files) name content are is short = (are.0, are.1, are_files_snoc files name content are.2 is short)

pub none_read : (bytes : List ℕ) (folder : FolderValue) → folder ≡ [] → AreRead bytes folder bytes
none_read bytes folder empty = subst (λ (all : FolderValue). AreRead bytes all bytes) (sym empty) (record { files_are = tt; is = refl })

pub one_read : (bytes rest name content after : List ℕ) (old new : FolderValue) → AreRead bytes old rest → BeginsFile name content after rest
    → new ≡ (name, content) ∷ old
    → AreRead bytes new after
one_read bytes rest name content after old new read begins put =
    let files : FolderValue = reverse old in
    let file : FolderValue = (name, content) ∷ [] in
    let turned : reverse new ≡ files ++ file = ap (λ (all : FolderValue). reverse all) put ∙ reverse-append file old in
    record {
      files_are = subst (λ (all : FolderValue). AreFiles all) (sym turned) (are_files_snoc files name content read.files_are begins.name_is begins.short);
      is = read.is ∙ ap (λ (r : List ℕ). files_bytes files ++ r) (begins.is ∙ sym (append_assoc (piece_bytes name) (piece_bytes content) after))
          ∙ sym (append_assoc (files_bytes files) (piece_bytes name ++ piece_bytes content) after)
          ∙ ap (λ (r : List ℕ). r ++ after) (sym (files_snoc files name content))
          ∙ ap (λ (all : FolderValue). files_bytes all ++ after) (sym turned);
    }

pub all_read : (bytes rest : List ℕ) (folder : FolderValue) → AreRead bytes folder rest → rest ≡ [] → IsFolderOf folder bytes
all_read bytes rest folder read empty = record {
  files_are = read.files_are;
  is = read.is ∙ ap (λ (r : List ℕ). files_bytes (reverse folder) ++ r) empty ∙ append-nil (files_bytes (reverse folder));
}

-- words and a folder after their number
pub given_found : (bytes rest after : List ℕ) (count : ℕ) (words : List (List ℕ)) (folder : FolderValue) → BeginsNumber count rest bytes
    → BeginsWords count words after rest → IsFolderOf folder after
    → IsHostGiven words folder bytes
given_found bytes rest after count words folder number begins end = record {
  counted = subst (λ (n : ℕ). n < 2 ^ 32) (sym begins.counted) number.fits;
  words_are = begins.words_are;
  files_are = end.files_are;
  is = number.is ∙ ap (λ (n : ℕ). number_bytes n ++ rest) (sym begins.counted)
      ∙ ap (λ (r : List ℕ). number_bytes (length words) ++ r) (begins.is ∙ ap (λ (r : List ℕ). words_bytes words ++ r) end.is);
}
