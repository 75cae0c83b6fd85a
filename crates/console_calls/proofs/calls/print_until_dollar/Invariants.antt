use Rattle.std.proofs.Common.{◌≡◌, ◌-◌}
use Rattle.std.specs.Option.{option_map}
use Rattle.i8080.specs.Memory.{Extends, bytes, look_all}
use Rattle.i8080.specs.Reading.{end_of, asked}
use Rattle.console_calls.specs.DeskAfter.{desk_printing}
use Rattle.console_calls.specs.Strings.{string_at}
use Rattle.console_calls.specs.Printing.{GrowsText}
use Rattle.console_calls.proofs.calls.print_until_dollar.Given as goal

abbrev pub invariant-loop-cell : goal.invariant-loop-cell
invariant-loop-cell g l = let first = g.B.Bus.memory l.fn.bus in let now = g.B.Bus.memory l.bus in record {
  desk : option_map (desk_printing l.desk.desk) (end_of (string_at (65536 - l._cell) l.address) (bytes first)) ≡ option_map (desk_printing l.fn.desk.desk) (end_of (string_at 65536 l.at) (bytes first));
  looks : look_all first.own (asked (string_at (65536 - l._cell) l.address) (bytes first)) now.looks ≡ look_all first.own (asked (string_at 65536 l.at) (bytes first)) first.looks;
  extends : Extends first.looks now.looks;
  grown : GrowsText l.fn.desk.desk l.desk.desk;
  desk_looks : l.desk.looks ≡ l.fn.desk.looks;
  own : now.own ≡ first.own;
  beneath : now.beneath ≡ first.beneath;
  lender : now.lender ≡ first.lender;
}
