-- Payloads of messages.
use Rattle.std.specs.Prelude.{ℕ, Bool, ◌&&◌, nat_le, if◌then◌else◌, List, length, Option, Some, None}
use Rattle.std.specs.List.{list_all}
use Rattle.upd_base.specs.declared.limits.TheConstants.{MAX_PAYLOAD}

-- a byte that a payload may hold: printable ASCII
abbrev pub is_printable : ℕ → Bool
is_printable byte = nat_le 0x20 byte && nat_le byte 0x7e

-- 1 to 256 printable bytes
abbrev pub is_payload : List ℕ → Bool
is_payload bytes = nat_le 1 (length bytes) && nat_le (length bytes) MAX_PAYLOAD && list_all is_printable bytes

-- the bytes, where they are a payload
abbrev pub payload : List ℕ → Option (List ℕ)
payload bytes = if is_payload bytes then Some bytes else None
