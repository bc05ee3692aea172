-- The types of items that 01 names, numbered as 01 (Items and packets, File fragments) and source document 000 (Type Codes) have them. An
-- item's type byte is called its kind, here and in the code, where `type` is a keyword.
use Rattle.std.specs.Prelude.{ℕ}

abbrev pub name_kind : ℕ
name_kind = 0x01

abbrev pub integer_kind : ℕ
integer_kind = 0x02

abbrev pub binary_kind : ℕ
binary_kind = 0x04

abbrev pub boolean_kind : ℕ
boolean_kind = 0x0f

abbrev pub offset_kind : ℕ
offset_kind = 0x11

abbrev pub length_kind : ℕ
length_kind = 0x12

abbrev pub location_kind : ℕ
location_kind = 0x13

abbrev pub eof_kind : ℕ
eof_kind = 0x14

abbrev pub cents_kind : ℕ
cents_kind = 0x16
