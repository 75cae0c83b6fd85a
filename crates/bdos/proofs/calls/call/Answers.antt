use Rattle.console_calls.specs.ConsoleCalls.{console_call}
use Rattle.bdos.proofs.Numbers.{names}
use Rattle.bdos.proofs.Chains.{named, of_desk}
use Rattle.file_calls.specs.TableView.{table_view}
use Rattle.bdos.proofs.Needs.{of_console, of_number}
use Rattle.bdos.proofs.calls.call.Goals as goal

pub returns-in-OfFile-clause-makes : goal.returns-in-OfFile-clause-makes
returns-in-OfFile-clause-makes g c n within = named c.args.script.now (names n _ _ c.decode.ensures c.in-OfFile.is) (c.file_call.ensures.makes c.args.script.now)

pub returns-in-SearchNext-clause-makes : goal.returns-in-SearchNext-clause-makes
returns-in-SearchNext-clause-makes g c n within = named c.args.script.now (names n _ _ c.decode.ensures c.in-SearchNext.is) (c.search_next_call.ensures.makes c.args.script.now)

pub returns-in-DeleteFile-clause-makes : goal.returns-in-DeleteFile-clause-makes
returns-in-DeleteFile-clause-makes g c n within = named c.args.script.now (names n _ _ c.decode.ensures c.in-DeleteFile.is) (c.delete_call.ensures.makes c.args.script.now)

pub returns-in-OfDesk-clause-makes : goal.returns-in-OfDesk-clause-makes
returns-in-OfDesk-clause-makes g c n within = named c.args.script.now (names n _ _ c.decode.ensures c.in-OfDesk.is) (of_desk c.args.script.now _ (console_call n c.args.regs.now c.args.desk.now.desk.spot) (c.console_call.ensures.makes n within))

pub returns-in-OfFile-clause-needs : goal.returns-in-OfFile-clause-needs
returns-in-OfFile-clause-needs g c n =
    of_number n c.args.script.now (g.B.Bus.memory c.args.bus.now) (table_view c.args.table.now) (g.B.Bus.is_ready c.args.bus.now) c.args.regs.now c.args.desk.now.desk.spot c.decode.ensures _ c.in-OfFile.is c.file_call.result (c.file_call.ensures.needs c.args.script.now)

pub returns-in-SearchNext-clause-needs : goal.returns-in-SearchNext-clause-needs
returns-in-SearchNext-clause-needs g c n =
    of_number n c.args.script.now (g.B.Bus.memory c.args.bus.now) (table_view c.args.table.now) (g.B.Bus.is_ready c.args.bus.now) c.args.regs.now c.args.desk.now.desk.spot c.decode.ensures _ c.in-SearchNext.is c.search_next_call.result (c.search_next_call.ensures.needs c.args.script.now)

pub returns-in-DeleteFile-clause-needs : goal.returns-in-DeleteFile-clause-needs
returns-in-DeleteFile-clause-needs g c n =
    of_number n c.args.script.now (g.B.Bus.memory c.args.bus.now) (table_view c.args.table.now) (g.B.Bus.is_ready c.args.bus.now) c.args.regs.now c.args.desk.now.desk.spot c.decode.ensures _ c.in-DeleteFile.is c.delete_call.result (c.delete_call.ensures.needs c.args.script.now)

pub returns-in-OfDesk-clause-needs : goal.returns-in-OfDesk-clause-needs
returns-in-OfDesk-clause-needs g c n =
    of_console n c.args.script.now (g.B.Bus.memory c.args.bus.now) (table_view c.args.table.now) (g.B.Bus.is_ready c.args.bus.now) c.args.regs.now c.args.desk.now.desk.spot c.decode.ensures c.in-OfDesk.is c.console_call.result
