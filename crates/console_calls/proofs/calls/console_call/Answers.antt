use Rattle.std.proofs.Common.{rules, refl, []}
use Rattle.i8080.specs.Registers.{word}
use Rattle.filenames.specs.Drives.{drive_number}
use Rattle.filenames.specs.declared.drive.Drive.TheVariants.{A}
use Rattle.console_calls.specs.ConsoleCalls.{no_writes}
use Rattle.console_calls.proofs.Carried.{along, stops, unsent}
use Rattle.console_calls.proofs.Leaves.{returns_with}
use Rattle.console_calls.proofs.Numbers.{numbered, unsupported}
use Rattle.console_calls.proofs.calls.console_call.Goals as goal

pub returns-in-2-clause-makes : goal.returns-in-2-clause-makes
returns-in-2-clause-makes g c n within = along (numbered _ n _ _ 2 c.in-2.is) (c.console_output.ensures c.args.script.now)

pub returns-in-7-clause-makes : goal.returns-in-7-clause-makes
returns-in-7-clause-makes g c n within = along (numbered _ n _ _ 7 c.in-7.is) (c.get_io_byte.ensures c.args.script.now)

pub returns-in-8-clause-makes : goal.returns-in-8-clause-makes
returns-in-8-clause-makes g c n within = along (numbered _ n _ _ 8 c.in-8.is) (c.set_io_byte.ensures.makes c.args.script.now)

pub returns-in-9-clause-makes : goal.returns-in-9-clause-makes
returns-in-9-clause-makes g c n within = along (numbered _ n _ _ 9 c.in-9.is) (c.string_output.ensures c.args.script.now)

pub returns-in-10-clause-makes : goal.returns-in-10-clause-makes
returns-in-10-clause-makes g c n within = along (numbered _ n _ _ 10 c.in-10.is) (c.line_input.ensures n within)

pub returns-in-12-clause-makes : goal.returns-in-12-clause-makes
returns-in-12-clause-makes g c n within = along (numbered _ n _ _ 12 c.in-12.is)
    (rw c.completed.ensures.went (returns_with c.args.script.now 0x22 c.args.desk.now.desk.spot [] no_writes c.completed.ensures.reads c.completed.ensures.regs (unsent c.args.desk.now.desk.spot c.args.desk.now.desk refl) refl refl refl refl (λ j. refl)))

pub returns-in-13-clause-makes : goal.returns-in-13-clause-makes
returns-in-13-clause-makes g c n within = along (numbered _ n _ _ 13 c.in-13.is)
    (rw c.completed-in-13.ensures.went (returns_with c.args.script.now 0 (record c.args.desk.now.desk.spot { buffer = 0x80; drive = A }) [] no_writes c.completed-in-13.ensures.reads c.completed-in-13.ensures.regs (unsent (record c.args.desk.now.desk.spot { buffer = 0x80; drive = A }) c.args.desk.now.desk (search rules)) refl refl refl refl (λ j. search rules)))

pub returns-in-14-clause-makes : goal.returns-in-14-clause-makes
returns-in-14-clause-makes g c n within = along (numbered _ n _ _ 14 c.in-14.is) (c.select_disk.ensures c.args.script.now)

pub returns-in-24-clause-makes : goal.returns-in-24-clause-makes
returns-in-24-clause-makes g c n within = along (numbered _ n _ _ 24 c.in-24.is)
    (rw c.completed-in-24.ensures.went (returns_with c.args.script.now 0xf c.args.desk.now.desk.spot [] no_writes c.completed-in-24.ensures.reads c.completed-in-24.ensures.regs (unsent c.args.desk.now.desk.spot c.args.desk.now.desk refl) refl refl refl refl (λ j. refl)))

pub returns-in-25-clause-makes : goal.returns-in-25-clause-makes
returns-in-25-clause-makes g c n within = along (numbered _ n _ _ 25 c.in-25.is)
    (rw c.completed-in-25.ensures.went (returns_with c.args.script.now (drive_number c.args.desk.now.desk.spot.drive) c.args.desk.now.desk.spot [] no_writes c.completed-in-25.ensures.reads (search rules) (unsent c.args.desk.now.desk.spot c.args.desk.now.desk refl) refl refl refl refl (λ j. refl)))

pub returns-in-26-clause-makes : goal.returns-in-26-clause-makes
returns-in-26-clause-makes g c n within = along (numbered _ n _ _ 26 c.in-26.is)
    (rw c.completed-in-26.ensures.went (returns_with c.args.script.now 0 (record c.args.desk.now.desk.spot { buffer = word c.args.regs.now.e c.args.regs.now.d }) [] no_writes c.completed-in-26.ensures.reads c.completed-in-26.ensures.regs (unsent (record c.args.desk.now.desk.spot { buffer = word c.args.regs.now.e c.args.regs.now.d }) c.args.desk.now.desk (search rules)) refl refl refl refl (λ j. search rules)))

pub returns-in_default-clause-makes : goal.returns-in_default-clause-makes
returns-in_default-clause-makes g c n within = along
    (unsupported _ n _ _ (search rules) (search rules) (search rules) (search rules) (search rules) (search rules) (search rules) (search rules) (search rules) (search rules) (search rules) (search rules) (search rules) (search rules) (search rules))
    (stops _ refl refl refl (λ j. refl))
