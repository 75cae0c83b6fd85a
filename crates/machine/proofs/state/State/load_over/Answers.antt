use Rattle.std.proofs.Common.{◌≡◌, ◌∙◌, rules}
use Rattle.machine.specs.Step.{first_regs}
use Rattle.machine.proofs.HostLemmas.{nothing_asked}
use Rattle.machine.proofs.WrittenCellLemmas.{cells_none}
use Rattle.machine.proofs.state.State.load_over.Goals as goal

pub returns-clause-state : goal.returns-clause-state
returns-clause-state c =
    let none = c.from_parts.ensures.own ∙ c.in_ok-cells.ensures in
    let regs : record c.default.result { sp = 0xfdfe; pc = 0x0100 } ≡ first_regs = search rules in
    λ i. record { core = record { regs = regs i; desk = c.new-2.ensures.desk i }; own = record { cells = cells_none _ none i; files = c.new-3.ensures.own i } }

pub returns-clause-looked : goal.returns-clause-looked
returns-clause-looked c = record {
  cells = c.from_parts.ensures.looks;
  questions = record { offsets = c.new-2.ensures.looks; files = λ a. nothing_asked c.new-3.result.looks a c.new-3.ensures.looks };
}
