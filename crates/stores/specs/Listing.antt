-- 01, "Program `stores`": what is printed, in ASCII.
-- Assumes nothing.
use Rattle.std.specs.Prelude.{◌≡◌, cond, List, [], ◌∷◌, ◌++◌, ℕ, ◌+◌, ◌/◌, ◌%◌, ltb, length, replicate, None, Option, Some}
use Rattle.bank.specs.declared.refusal.Refusal.{Refusal}
use Rattle.bank.specs.Refusal.{number_of, checked}
use Rattle.records.specs.declared.luminaire_write.Plan.{Plan}
use Rattle.records.specs.Text.{hex_digits}
use Rattle.records.specs.Writes.{Store, flat}
use Rattle.records.specs.Plan.{plan_checks, stores_of}
use Rattle.stores.specs.File.{parsed, text_in}

-- a decimal digit
abbrev pub digit : ℕ → ℕ
digit n = 0x30 + n

-- a number below 1,000 in decimal, without leading zeros
abbrev pub decimal : ℕ → List ℕ
decimal n =
    cond (ltb n 10) (digit n ∷ [])
    (cond (ltb n 100) (digit (n / 10) ∷ digit (n % 10) ∷ []) (digit (n / 100) ∷ digit (n / 10 % 10) ∷ digit (n % 10) ∷ []))

-- a line of a word and a number
abbrev pub counted : List ℕ → ℕ → List ℕ
counted word n = word ++ (decimal n ++ 0x0A ∷ [])

-- "offset and value in two upper-case hex digits each"
abbrev pub line : ℕ → ℕ → List ℕ
line offset value = hex_digits offset ++ (0x20 ∷ hex_digits value ++ (0x0A ∷ []))

-- `stores` and a space
abbrev pub stores_word : List ℕ
stores_word = 0x73 ∷ 0x74 ∷ 0x6F ∷ 0x72 ∷ 0x65 ∷ 0x73 ∷ 0x20 ∷ []

-- `refused` and a space
abbrev pub refused_word : List ℕ
refused_word = 0x72 ∷ 0x65 ∷ 0x66 ∷ 0x75 ∷ 0x73 ∷ 0x65 ∷ 0x64 ∷ 0x20 ∷ []

-- "`bad file`"
abbrev pub bad_file : List ℕ
bad_file = 0x62 ∷ 0x61 ∷ 0x64 ∷ 0x20 ∷ 0x66 ∷ 0x69 ∷ 0x6C ∷ 0x65 ∷ 0x0A ∷ []

-- "It prints `stores` and a count, then per store offset and value"
abbrev pub stores_text : List Store → List ℕ
stores_text ss = counted stores_word (length ss) ++ flat (λ (s : Store). line s.offset s.value) ss

-- "or `refused` and a number"
abbrev pub refused_text : Refusal → List ℕ
refused_text r = counted refused_word (number_of r)

abbrev pub plan_text : Plan → List ℕ → List ℕ
plan_text p text = checked (plan_checks p text) refused_text (stores_text (stores_of p text))

-- the plan's stores or its refusal, "or `bad file`"; slices are long enough, so 13 doesn't arise
abbrev text_of : Option Plan → List ℕ → List ℕ
text_of None text = bad_file
text_of (Some p) text = plan_text p text

unfoldable pub printed : List ℕ → List ℕ
printed file = text_of (parsed file) (text_in file)

-- "Format 5, last offset C9 hex, empty mask, index 12, text AB": the file, part by part
abbrev example_file : List ℕ
example_file =
    0x4C ∷ 0x57 ∷ 0x45
    ∷ 0x00 ∷ 0x01
    ∷ 0xC9
    ∷ 0x00 ∷ 0x05
    ∷ 0x00 ∷ 0x00
    ∷ replicate 19 0x00
    ++ 12
    ∷ 2
    ∷ 0x41 ∷ 0x42 ∷ []

-- and what 01 says that it prints, line by line
abbrev example_text : List ℕ
example_text =
    0x73 ∷ 0x74 ∷ 0x6F ∷ 0x72 ∷ 0x65 ∷ 0x73 ∷ 0x20 ∷ 0x34 ∷ 0x0A
    ∷ 0x33 ∷ 0x43 ∷ 0x20 ∷ 0x30 ∷ 0x30 ∷ 0x0A
    ∷ 0x33 ∷ 0x44 ∷ 0x20 ∷ 0x34 ∷ 0x32 ∷ 0x0A
    ∷ 0x33 ∷ 0x45 ∷ 0x20 ∷ 0x30 ∷ 0x30 ∷ 0x0A
    ∷ 0x33 ∷ 0x43 ∷ 0x20 ∷ 0x34 ∷ 0x31 ∷ 0x0A ∷ []

-- The printed listing of 01, byte by byte.
abbrev pub ListingPrinted : Type 0
ListingPrinted = printed example_file ≡ example_text
