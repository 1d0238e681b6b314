-- The line that the reader found has the form of a setting.
use Rattle.std.specs.Prelude.{◌≡◌, true, ℕ, ◌-◌, ◌≤◌, ◌<◌, take, drop}
use Rattle.std.proofs.Math.Path.{sym, ap}
use Rattle.std.proofs.Common.{◌∙◌}
use mathlib.Core.List.{List}
use Rattle.std.proofs.Math.ListN.{length}
use Rattle.settings.specs.Settings.{has_form}
use Rattle.settings.specs.Calls.{used_lines, newest_line}
use Rattle.settings.specs.Scan.{Scans}
use Rattle.settings.specs.LineLaws.{setting_form}
use Rattle.settings.proofs.ScanLaws.{newest_setting}
use Rattle.settings.specs.CallLaws.{some_lines, found-line}

module _ (reader : ℕ) (buffer : List ℕ) (used : ℕ) (h : used ≤ length buffer) (some : 0 < used) {n begins : ℕ} (s : Scans (take used buffer) n begins) where
  pub found_form : n ≡ 0 → has_form (take (used - begins) (drop begins buffer)) ≡ true
  found_form z =
      ap has_form (found-line reader buffer used h some s z)
      ∙ setting_form (newest_line (used_lines buffer used)) (newest_setting (used_lines buffer used) (some_lines reader buffer used h some) (sym s.wrong ∙ z))
