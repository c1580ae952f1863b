-- What the program says of itself.
use Rattle.std.specs.Prelude.{ℕ, List, [], ◌∷◌, ◌++◌, codes}
use Rattle.std.specs.List.{flat_map}

-- the lines on the words and the lines that the program takes
abbrev pub help_lines : List (List ℕ)
help_lines =
    codes "usage: judge, judge --number, judge types, judge --help, or judge --version"
    ∷ []
    ∷ codes "judge            answers the lines of standard input, a line each"
    ∷ codes "judge --number   the same, each answer after the number of its line"
    ∷ codes "judge types      names the types that have a canonical encoding"
    ∷ codes "judge --help     says this"
    ∷ codes "judge --version  says the version"
    ∷ []
    ∷ codes "TYPE RANGE.. BYTES                what the bytes are as a value of the type, with a range a length"
    ∷ codes "build TYPE BYTES                  what a builder makes of the listed items, of equal ones the first"
    ∷ codes "build-unique TYPE BYTES           the same, where equal ones are refused"
    ∷ codes "position TYPE BYTES ITEM          where the item stands in the set"
    ∷ codes "faults MODEL N                    the numbers of N members: n3f1, n5f1, or k=7 for 7f + 1"
    ∷ codes "refute MODEL N F                  why F of N members can't be faulty"
    ∷ codes "quorum MODEL N BYTES              whether a quorum of N members signed the certificate"
    ∷ codes "conflict MODEL N BYTES BYTES      who signed both certificates, for different values"
    ∷ codes "equivocation MODEL N BYTES BYTES  who signed both, for different decisions of one slot"
    ∷ []
    ∷ codes "weights MODEL WEIGHTS                            the numbers of the weights that are listed"
    ∷ codes "weighted-quorum MODEL WEIGHTS BYTES              whether signers that weigh a quorum signed it"
    ∷ codes "weighted-conflict MODEL WEIGHTS BYTES BYTES      who signed both, where quorums are by weight"
    ∷ codes "weighted-equivocation MODEL WEIGHTS BYTES BYTES  the same, for different decisions of one slot"
    ∷ []

-- each line of them
abbrev pub help_text : List ℕ
help_text = flat_map (λ line. line ++ (10 ∷ [])) help_lines

-- the line on the version
abbrev pub version_text : List ℕ
version_text = codes "judge 2.0.0" ++ (10 ∷ [])
