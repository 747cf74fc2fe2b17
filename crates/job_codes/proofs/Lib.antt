mod CodeLetters
mod WrittenCodes
