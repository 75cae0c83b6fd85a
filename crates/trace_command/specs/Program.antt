-- `cpmtrace` as a program. (This project's profile.)
use Rattle.command_words.specs.Clashes.{trace_checks}
use Rattle.command_words.specs.ErrorClass.{HasErrorClass}
use Rattle.command_words.specs.TraceLine.{AreTraceWordsOf, trace_faults, trace_matches}
use Rattle.command_words.specs.declared.trace_words.TraceWords.{TraceWords}
use Rattle.faults.specs.declared.tool.Tool.TheVariants.{Cpmtrace}
use Rattle.requests.specs.Acts.{exits, print, with_some}
use Rattle.requests.specs.Programs.{Program, Task}
use Rattle.trace_filters.specs.declared.choice.Choice.{Choice}
use Rattle.tracing.specs.Trace.{trace_text}
use Rattle.trace_command.specs.AreTraceWords.{AreTraceWords}
use Rattle.trace_command.specs.Choices.{IsChoiceOf, RefusesValue}

-- The trace of the session of these words is written.
abbrev pub tracing : TraceWords → Task
tracing w = record {
  session = w.session;
  Refuses = RefusesValue w;
  Allows = (choice : Choice) × IsChoiceOf w choice;
  act = λ s listings status. exits status 0 (with_some (IsChoiceOf w) (λ choice. print (trace_text choice s)));
}

abbrev pub cpmtrace : Program TraceWords
cpmtrace = record {
  tool = Cpmtrace;
  Has = λ words. HasErrorClass (trace_faults words);
  Have = λ words. AreTraceWordsOf (trace_matches words);
  checks = trace_checks;
  Are = AreTraceWords;
  task = tracing;
}
