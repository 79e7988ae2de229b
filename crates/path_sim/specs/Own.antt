-- The scenario's own pickers.
use Rattle.std.specs.Prelude.{◌≡◌, List, map}
use Rattle.lg_model.specs.Scenario.{Scenario}
use Rattle.column_pick.specs.declared.any_picker.AnyPicker.{AnyPicker}
use Rattle.column_pick.specs.Picks.{fresh}

-- A picker for each switch, which was not offered yet.
abbrev pub AreFresh : Scenario → List AnyPicker → Type 0
AreFresh w ps = ps ≡ map (fresh w.pick) w.switches
