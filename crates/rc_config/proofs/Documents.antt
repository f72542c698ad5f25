-- Bytes that are a TOML document, and those that are none.
use Rattle.std.proofs.Common.{◌≡◌, ℕ, List, Some, None, inl, inr, refl}
use Rattle.std.specs.Str.{is_utf8, IsUtf8}
use Rattle.std.proofs.lemmas.Bool.{cases_Bool}
use Rattle.std.proofs.lemmas.Str.{is_utf8-from_IsUtf8, IsUtf8-from_is_utf8}
use Rattle.toml.specs.Data.{Members}
use Rattle.toml.specs.Parse.{parse_document}
use Rattle.rc_config.specs.Workload.{document_of}

pub document_some : (bytes : List ℕ) (entries : Members) → IsUtf8 bytes → parse_document bytes ≡ Some entries → document_of bytes ≡ Some entries
unfolding document_of
document_some bytes entries utf8 parsed = rw (is_utf8-from_IsUtf8 bytes utf8) parsed

pub document_none : (bytes : List ℕ) → (IsUtf8 bytes → parse_document bytes ≡ None) → document_of bytes ≡ None
unfolding document_of
document_none bytes refused =
    elim (cases_Bool (is_utf8 bytes)) [
      | inl text ↦ rw text (refused (IsUtf8-from_is_utf8 bytes text))
      | inr other ↦ rw other refl
    ]
