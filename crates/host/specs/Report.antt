-- 01, Program and C host: what the C firmware is told. A report is one number, so that a refusal can't be mistaken for a length.
use Rattle.std.specs.Prelude.{◌≡◌, List, ℕ, ◌+◌, ◌*◌, ◌/◌, ◌%◌, length}
use Rattle.refusals.specs.Numbers.{bad_framing, long_content, bad_check, number_of}
use Rattle.slices.specs.Put.{put_at}
use Rattle.slices.specs.Written as writing
use Rattle.slices.specs.Written.{Output, written_bytes}
use Rattle.frame.specs.Content as content
use Rattle.frame.specs.Content.{no_place}
use Rattle.frame.specs.Answers.{read_payload}
use Rattle.frame.specs.Places.{BadEscape, PassesLimit, FailsCheck}

-- the refusal's number in bits 0 to 7 (0: none), type in 8 to 15, sequence in 16 to 23, length in 24 to 39; 02, C-16: the refusal's place
-- in 40 to 63
abbrev pub report_of : ℕ → ℕ → ℕ → ℕ → ℕ → ℕ
report_of number kind sequence size place = number + kind * 0x100 + sequence * 0x10000 + size * 0x1000000 + place * 0x10000000000

-- the parts of a report, as the header reads them off it
abbrev pub refusal_in : ℕ → ℕ
refusal_in report = report % 0x100

abbrev pub type_in : ℕ → ℕ
type_in report = report / 0x100 % 0x100

abbrev pub sequence_in : ℕ → ℕ
sequence_in report = report / 0x10000 % 0x100

abbrev pub length_in : ℕ → ℕ
length_in report = report / 0x1000000 % 0x10000

abbrev pub place_in : ℕ → ℕ
place_in report = report / 0x10000000000

pub record Parts (report number kind sequence size place : ℕ) : Type 0 where
  pub of_number : refusal_in report ≡ number
  pub of_kind : type_in report ≡ kind
  pub of_sequence : sequence_in report ≡ sequence
  pub of_size : length_in report ≡ size
  pub of_place : place_in report ≡ place

-- 02, C-16: what the place in a report says of the sent bytes between two flags, by the number beside it
pub record PlacesReported (run : List ℕ) (number place : ℕ) : Type 0 where
  pub of_1 : number ≡ number_of bad_framing → BadEscape run place
  pub of_2 : number ≡ number_of long_content → PassesLimit run place
  pub of_4 : number ≡ number_of bad_check → FailsCheck run place
  pub of_others : (number ≡ number_of bad_framing → ⊥) → (number ≡ number_of long_content → ⊥) → (number ≡ number_of bad_check → ⊥) → place ≡ no_place

-- the frame check: type, sequence and the payload's length, or the refusal and its place alone
abbrev pub read_report : content.Read → ℕ
read_report (content.frame kind sequence payload) = report_of 0 kind sequence (length payload) no_place
read_report (content.refused n place) = report_of (number_of n) 0 0 0 place

-- the frame writer: the frame's length, or the refusal alone
abbrev pub written_report : Output → ℕ
written_report (writing.written sent) = report_of 0 0 0 (length sent) no_place
written_report (writing.refused n) = report_of (number_of n) 0 0 0 no_place

pub record ReportsRead (found : content.Read) (output : List ℕ) (report : ℕ) (exit : List ℕ) : Type 0 where
  pub reports : report ≡ read_report found
  pub payload : exit ≡ put_at output 0 (read_payload found)

pub record ReportsWritten (result : Output) (output : List ℕ) (report : ℕ) (exit : List ℕ) : Type 0 where
  pub reports : report ≡ written_report result
  pub frame : exit ≡ put_at output 0 (written_bytes result)
