-- What the arguments of the program ask for.
use Rattle.std.specs.{Prelude.{ℕ, ◌||◌, if◌then◌else◌, List, [], ◌∷◌, codes, bytes_eq, Option, Some, None}, Option.is_none}
use Rattle.rlp_show.specs.{declared.request.Request.TheVariants.{Help, Lines, Record, Unknown, Version}, Input.is_record, Kinds.kind_named}
use Rattle.rlp_show.specs.{declared.answers.Answers.Answers, declared.answers.Form.Form, declared.answers.Form.TheVariants.{Bytes, Json, Text}}
use Rattle.rlp_show.specs.{declared.kind.Kind.Kind, declared.request.Request.Request}

-- answers for records of this kind, in this form
abbrev pub answers : Option Kind → Form → Answers
answers kind form = record { kind = kind; form = form }

-- what a single word that is neither a kind nor a record asks for
abbrev pub word_request : List ℕ → Request
word_request word =
    if bytes_eq word (codes "--help") || bytes_eq word (codes "-h") then Help
    else if bytes_eq word (codes "--version") || bytes_eq word (codes "-V") then Version
    else Unknown

-- what the words after the words for the form and the kind of the answers ask for
abbrev pub record_request : Answers → List (List ℕ) → Request
record_request a [] = Lines a
record_request a (word ∷ []) =
    if is_record word then Record a
    else if is_none a.kind then word_request word
    else Unknown
record_request a (first ∷ second ∷ words) = Unknown

-- what words ask for; the first word may name a kind
abbrev pub kind_request : Form → Option Kind → List ℕ → List (List ℕ) → Request
kind_request form (Some kind) first words = record_request (answers (Some kind) form) words
kind_request form None first words = record_request (answers None form) (first ∷ words)

-- what words ask for, with answers in this form
abbrev pub form_request : Form → List (List ℕ) → Request
form_request form [] = Lines (answers None form)
form_request form (first ∷ words) = kind_request form (kind_named first) first words

-- what the words after the name of the program ask for; after `--json` the answers are in JSON, and after `--bytes` the answers have the place of each field
abbrev pub request_of : List (List ℕ) → Request
request_of [] = form_request Text []
request_of (first ∷ words) =
    if bytes_eq first (codes "--json") then form_request Json words
    else if bytes_eq first (codes "--bytes") then form_request Bytes words
    else form_request Text (first ∷ words)
