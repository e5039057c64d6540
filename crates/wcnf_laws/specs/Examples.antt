-- Competition files by example, beside the laws: what is read, each refusal with its place, what is written, what is answered.
use Rattle.std.specs.Prelude.{ℕ, true, false, List, [], ◌∷◌, ◌++◌}
use Prim.Native.String.{String}
use Rattle.literals.specs.declared.Lits.{Lits}
use Rattle.rules.specs.Table.{most_rows, hard_row, row_words_of}
use Rattle.rules.specs.Walk.{walked, found_by}
use Rattle.rules.specs.Text.{bytes}
use Rattle.rules.specs.Wcnf.{wcnf_text}
use Rattle.rules.specs.WcnfReader.{wcnf_read_why, wcnf_words}
use Rattle.rules.specs.WcnfProgram.{wcnf_found_text, wcnf_answer}
use Rattle.rules.specs.Examples.{Example, example, x, not-x, all, row, refusal, p8}

-- what the reader answers, given room
abbrev wcnf : String → List ℕ
wcnf text = refusal (wcnf_read_why most_rows (bytes text) 10000)

-- a hard row's words
abbrev hard : List Lits → List ℕ
hard ls = row_words_of (hard_row (all ls))

abbrev pub examples : List Example
examples =
    example "comments, wide gaps, any order, repeats, an empty clause"
    (wcnf_words (bytes "c a remark\nc\np  wcnf 3 3   10\n3 -2 1  1 0\n2   3 -1 -1 0\n9 0\n"))
    (row (x 1 ∷ not-x 2 ∷ []) 3 ++ (row (not-x 1 ∷ x 3 ∷ []) 2 ++ row [] 9))
    ∷ example "that is read"
    (wcnf "c a remark\nc\np  wcnf 3 3   10\n3 -2 1  1 0\n2   3 -1 -1 0\n9 0\n")
    []
    ∷ example "no header; a comment unended; a space in front; nothing"
    (wcnf "c\n1 0\n" ++ (wcnf "c" ++ (wcnf " p wcnf 0 0 1\n" ++ wcnf "")))
    (20 ∷ 2 ∷ 20 ∷ 1 ∷ 20 ∷ 1 ∷ 20 ∷ 1 ∷ [])
    ∷ example "65 variables, 2,049 clauses, 2,048 of which the first is missing, no room"
    (wcnf "p wcnf 65 2049 1\n" ++ (wcnf "p wcnf 64 2049 1\n" ++ (wcnf "p wcnf 64 2048 1\n" ++ refusal (wcnf_read_why most_rows (bytes "p wcnf 1 1 9\n") 2))))
    (1 ∷ 0 ∷ 2 ∷ 0 ∷ 20 ∷ 2 ∷ 4 ∷ 0 ∷ [])
    ∷ example "513 clauses, and 512 of which the first is missing, for the program"
    (wcnf_answer (bytes "p wcnf 64 513 1\n") ++ wcnf_answer (bytes "p wcnf 64 512 1\n"))
    (bytes "c refused: number 2, place 0\ns UNKNOWN\nc refused: number 20, place 2\ns UNKNOWN\n")
    ∷ example "a comment behind the header; 11 digits; -0; 01; +1; a space at the end; behind the closing 0; unended"
    (wcnf "p wcnf 1 1 9\nc\n1 0\n" ++ (wcnf "p wcnf 1 1 9\n1 10000000000 0\n" ++ (wcnf "p wcnf 1 1 9\n1 -0\n" ++ (wcnf "p wcnf 1 1 9\n1 01 0\n"
    ++ (wcnf "p wcnf 1 1 9\n1 +1 0\n" ++ (wcnf "p wcnf 1 1 9\n1 0 \n" ++ (wcnf "p wcnf 1 1 9\n1 0 1\n" ++ wcnf "p wcnf 1 1 9\n1 0")))))))
    (20 ∷ 2 ∷ 20 ∷ 2 ∷ 20 ∷ 2 ∷ 20 ∷ 2 ∷ 20 ∷ 2 ∷ 20 ∷ 2 ∷ 20 ∷ 2 ∷ 20 ∷ 2 ∷ [])
    ∷ example "above the count; both ways; at top, which is read; 5 at top; 20 before 5; clause 1's 5 before line 4's 20; a surplus line; a line missing"
    (wcnf "p wcnf 1 1 9\n1 2 0\n" ++ (wcnf "p wcnf 1 1 9\n1 1 -1 0\n" ++ (wcnf "p wcnf 1 2 9\n1 0\n9 0\n" ++ (wcnf "p wcnf 1 1 1\n1 2 0\n"
    ++ (wcnf "p wcnf 1 1 9\n1 2 0 \n" ++ (wcnf "p wcnf 1 3 9\n1 0\n1 2 0\n1\n" ++ (wcnf "p wcnf 1 1 9\n1 0\n\n" ++ wcnf "p wcnf 1 2 9\n1 0\n")))))))
    (5 ∷ 0 ∷ 5 ∷ 0 ∷ 5 ∷ 0 ∷ 20 ∷ 2 ∷ 5 ∷ 1 ∷ 20 ∷ 3 ∷ 20 ∷ 3 ∷ [])
    ∷ example "a weight below top is soft; at top and above it is hard, and weighs 0; top 0 makes all hard"
    (wcnf_words (bytes "p wcnf 2 3 9\n8 1 0\n9 -1 2 0\n1000 0\n") ++ wcnf_words (bytes "p wcnf 1 1 0\n0 1 0\n"))
    ((row (x 1 ∷ []) 8 ++ (hard (not-x 1 ∷ x 2 ∷ []) ++ hard [])) ++ hard (x 1 ∷ []))
    ∷ example "a hard row written with top, and read back"
    (wcnf_text 1 (row (x 1 ∷ []) 3 ++ hard (not-x 1 ∷ [])) ++ wcnf_words (wcnf_text 1 (row (x 1 ∷ []) 3 ++ hard (not-x 1 ∷ []))))
    (bytes "p wcnf 1 2 4\n3 1 0\n4 -1 0\n" ++ (row (x 1 ∷ []) 3 ++ hard (not-x 1 ∷ [])))
    ∷ example "P8's table written, with top the sum and one"
    (wcnf_text 2 p8)
    (bytes "p wcnf 2 2 3\n1 1 2 0\n1 -2 0\n")
    ∷ example "and read back"
    (wcnf_words (wcnf_text 2 p8))
    p8
    ∷ example "P1 and P4 answered"
    (wcnf_answer (bytes "p wcnf 0 0 1\n") ++ wcnf_answer (bytes "p wcnf 3 5 6\n1 1 0\n1 -1 2 0\n1 -1 -2 0\n1 -1 3 0\n1 -1 -3 0\n"))
    (bytes "c nodes 1\no 0\ns OPTIMUM FOUND\nv\nc nodes 11\no 1\ns OPTIMUM FOUND\nv -1 2 3\n")
    ∷ example "stopped with a reading, and with none"
    (wcnf_found_text 3 (found_by (walked 10 1 true 6 true)) ++ wcnf_found_text 3 (found_by (walked 2 6 false 0 true)))
    (bytes "c nodes 10\no 1\ns UNKNOWN\nv -1 2 3\nc nodes 2\ns UNKNOWN\n")
    ∷ example "hard clauses that clash, and one against a soft clause"
    (wcnf_answer (bytes "p wcnf 1 2 9\n9 1 0\n9 -1 0\n") ++ wcnf_answer (bytes "p wcnf 1 2 9\n8 1 0\n9 -1 0\n"))
    (bytes "c nodes 3\ns UNSATISFIABLE\nc nodes 3\no 8\ns OPTIMUM FOUND\nv -1\n")
    ∷ example "refused by the reader, and by load"
    (wcnf_answer (bytes "p wcnf 1 2 9\n1 1 0\n9 2 0\n") ++ wcnf_answer (bytes "p wcnf 1 2 9\n1 1 0\n0 1 0\n"))
    (bytes "c refused: number 5, place 1\ns UNKNOWN\nc refused: number 6, place 1\ns UNKNOWN\n")
    ∷ []
