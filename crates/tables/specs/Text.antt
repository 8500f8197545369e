-- The lines of a text and the words of a line. Only the bytes 10 and 32 separate: a tab or a carriage return is a part of its word. Several blanks in a row
-- separate like one, and blanks at the ends of a line do not count.
use Rattle.std.specs.Prelude.{ℕ, Bool, true, false, cond, ◌&&◌, List, [], ◌∷◌}
use Rattle.std.specs.Str.{bytes_eq}
use Rattle.tables.specs.Breaks.{is_end, is_break}

-- a byte before the first piece, which it begins where there is none
abbrev pub onto : ℕ → List (List ℕ) → List (List ℕ)
onto b [] = (b ∷ []) ∷ []
onto b (p ∷ ps) = (b ∷ p) ∷ ps

-- the pieces of a text, each up to the byte that ends it; after the last such byte there is a piece only if bytes are left
abbrev pub cut : (ℕ → Bool) → List ℕ → List (List ℕ)
cut ends [] = []
cut ends (b ∷ bs) = cond (ends b) ([] ∷ cut ends bs) (onto b (cut ends bs))

-- the pieces that are not empty
abbrev pub full : List (List ℕ) → List (List ℕ)
full [] = []
full ([] ∷ ps) = full ps
full ((b ∷ p) ∷ ps) = (b ∷ p) ∷ full ps

-- the lines of a text: a newline ends a line, and the last line may lack it
abbrev pub lines_of : List ℕ → List (List ℕ)
lines_of bs = cut is_end bs

-- the words of a line: what stands between its breaks, which are its blanks, since a line has no line end in it
abbrev pub words_of : List ℕ → List (List ℕ)
words_of line = full (cut is_break line)

abbrev pub none : List (List ℕ) → Bool
none [] = true
none (w ∷ ws) = false

-- a line without words is blank
abbrev pub is_blank : List ℕ → Bool
is_blank line = none (words_of line)

abbrev pub same_words : List (List ℕ) → List (List ℕ) → Bool
same_words [] [] = true
same_words [] (w ∷ ws) = false
same_words (v ∷ vs) [] = false
same_words (v ∷ vs) (w ∷ ws) = bytes_eq v w && same_words vs ws
