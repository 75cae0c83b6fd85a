use Rattle.std.proofs.Common.{◌≡◌, ◌++◌, map, take, string_bytes}
use Rattle.folders.specs.FolderNames.{path_text}
use Rattle.one_run.proofs.left.push_left.Given as goal

abbrev pub invariant-loop-name : goal.invariant-loop-name
invariant-loop-name l = map string_bytes l.paths.items
    ≡ map string_bytes l.fn.paths.items ++ map (λ name. path_text l.disk.folder.now (string_bytes name)) (take l.name-index l.name-items)
