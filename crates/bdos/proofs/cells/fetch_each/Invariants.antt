use Rattle.std.proofs.Common.{◌≡◌, ◌++◌, ◌-◌, length, take}
use Rattle.i8080.specs.Memory.{bytes, look_all}
use Rattle.i8080.specs.Performs.{KeepsReady}
use Rattle.i8080.specs.Reading.{end_of, asked}
use Rattle.bdos.specs.FileCalls.{bytes_at}
use Rattle.bdos.proofs.cells.fetch_each.Given as goal

abbrev pub invariant-loop-i : goal.invariant-loop-i
invariant-loop-i g l = let first = g.B.Bus.memory l.fn.bus in let now = g.B.Bus.memory l.bus in let n = length l.fn.cells in record {
  count : length l.cells ≡ n;
  taken : take l.i l.cells ++ end_of (bytes_at (n - l.i) l.address) (bytes first) ≡ end_of (bytes_at n l.at) (bytes first);
  looks : look_all first.own (asked (bytes_at (n - l.i) l.address) (bytes first)) now.looks ≡ look_all first.own (asked (bytes_at n l.at) (bytes first)) first.looks;
  own : now.own ≡ first.own;
  beneath : now.beneath ≡ first.beneath;
  lender : now.lender ≡ first.lender;
  kept : KeepsReady (g.B.Bus.is_ready l.fn.bus) (g.B.Bus.is_ready l.bus);
}
