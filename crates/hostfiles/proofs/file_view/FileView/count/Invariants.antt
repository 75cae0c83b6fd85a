use Rattle.std.proofs.Common.{◌≡◌, ◌≤◌, ◌*◌, ℕ, false, get_or, take, drop}
use Rattle.hostfiles.specs.Files.{file_of, entry_at}
use Rattle.hostfiles.specs.File.{shape_of}
use Rattle.hostfiles.proofs.file_view.FileView.count.Given as goal

abbrev pub invariant-loop-i : goal.invariant-loop-i
invariant-loop-i l = (l.i ≤ 128) × ((k : ℕ) → l.i ≤ k → get_or (take 128 (drop (128 * l.extent) (shape_of (file_of l.self.host.now l.self.key (entry_at l.self.journal.now.entries l.self.key))))) k false ≡ false)

abbrev pub decreases-loop-i : goal.decreases-loop-i
decreases-loop-i l = l.i
