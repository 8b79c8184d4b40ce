-- Slots as numbers (DECISIONS 79): a number stands for a slot, and no two numbers for the same one.
use Rattle.std.specs.Prelude.{ℕ, ◌-◌, ◌/◌, ◌%◌, ◌<◌, cond, List, map, eqb, take}
use Rattle.model.specs.Descriptors.{Slot, closed, holding}
use Rattle.model.specs.declared.Handle.{Handle}
use Rattle.model.specs.declared.Place.{Place}

-- from the lowest bit on: the mark, 31 bits of the node, the mount
abbrev pub handle_by : ℕ → Handle
handle_by y = record { mount = y / 4294967296; node = y / 2 % 2147483648; mark = eqb (y % 2) 1 }

-- 0 is a closed slot, and a handle's number is one more than its bits say
unfoldable pub slot_by : ℕ → Slot
slot_by x = cond (eqb x 0) closed (holding (handle_by (x - 1)))

-- the 64 slots that the first 64 of a list of numbers stand for
unfoldable pub slots_by : List ℕ → List Slot
slots_by numbers = map slot_by (take 64 numbers)

-- a place whose mount and node fit into a slot's number
abbrev pub Fits : Place → Type 0
Fits p = (p.mount < 4294967296) × (p.node < 2147483647)
