-- `board::reading::read_update` meets its contract: each way through it has its law.
use Rattle.std.proofs.Common.{◌≡◌, ◌∙◌, rules, w64, to_z, of_z}
use Rattle.board.proofs.ReadingLaws.{update_bad_name, update_ends, update_bad_value, update_value}
use Rattle.board.proofs.reading.read_update.Goals as goal

pub returns-then-not-valid_name : goal.returns-then-not-valid_name
returns-then-not-valid_name c =
    c.refused.ensures ∙ update_bad_name _ _ _ _ _ c.value_at-name_bytes.ensures c.if-not-valid_name.ensures

pub returns-in_default : goal.returns-in_default
returns-in_default c =
    c.refused-in_default.ensures ∙ update_ends _ _ _ _ _ c.value_at-name_bytes.ensures c.if-not-valid_name.ensures c.in_default.is

pub returns-in_default-read_value : goal.returns-in_default-read_value
returns-in_default-read_value c =
    c.refused-in_default-read_value.ensures
    ∙ update_bad_value _ _ _ _ _ c.value_at-name_bytes.ensures c.if-not-valid_name.ensures c.in-Some.is c.value_at.ensures c.in_default-read_value.ensures

pub returns : goal.returns
returns c =
    let back : to_z w64 (of_z w64 c.in-Some-read_value.value) ≡ c.in-Some-read_value.value = search rules in
    rw (c.update_row.ensures, back)
    (update_value _ _ _ _ _ c.value_at-name_bytes.ensures c.if-not-valid_name.ensures c.in-Some.is c.value_at.ensures c.in-Some-read_value.ensures)
