use Rattle.std.proofs.Common.{◌≡◌, ◌∙◌, length, lit≤, refl, rules}
use Rattle.std.proofs.lemmas.Result.{err_from_is_err_and}
use Rattle.folders.proofs.FilesLemmas.{same_files}
use Rattle.folders.proofs.ReadLemmas.{all_drives, none_read, nothing_yet}
use Rattle.folders.proofs.reading.read_folders.Goals as goal

pub read_drive-requires : goal.read_drive-requires
read_drive-requires g c =
    let files = g.S.FileSystem.files c.args.system.now in
    nothing_yet files c.args.folders.now 0 c.new-files.result (none_read files c.args.folders.now c.new-files.result c.new-files.ensures)

pub returns-in_err-a-clause-fault : goal.returns-in_err-a-clause-fault
returns-in_err-a-clause-fault g c =
    let files = g.S.FileSystem.files c.args.system.now in
    let folders = c.args.folders.now in
    let left = err_from_is_err_and c.from_residual.result c.from_residual.ensures.1 in
    rw (left.1, left.2) (c.in_err-a.ensures.fault folders refl (none_read files folders c.new-files.result c.new-files.ensures))

pub read_drive-requires-2 : goal.read_drive-requires-2
read_drive-requires-2 g c =
    let files = g.S.FileSystem.files c.args.system.now in
    let folders = c.args.folders.now in
    let a = c.in_ok-a.ensures.read folders refl (none_read files folders c.new-files.result c.new-files.ensures) in
    nothing_yet files folders 1 c.read_drive.new.files a

pub returns-in_err-b-clause-fault : goal.returns-in_err-b-clause-fault
returns-in_err-b-clause-fault g c =
    let files = g.S.FileSystem.files c.args.system.now in
    let folders = c.args.folders.now in
    let first = same_files c.in_ok-a.ensures.unchanged in
    let a = c.in_ok-a.ensures.read folders refl (none_read files folders c.new-files.result c.new-files.ensures) in
    let left = err_from_is_err_and c.from_residual-in_err-b.result c.from_residual-in_err-b.ensures.1 in
    rw (left.1, left.2) ((rw first at c.in_err-b.ensures.fault) folders refl a)

pub read_drive-requires-3 : goal.read_drive-requires-3
read_drive-requires-3 g c =
    let files = g.S.FileSystem.files c.args.system.now in
    let folders = c.args.folders.now in
    let first = same_files c.in_ok-a.ensures.unchanged in
    let a = c.in_ok-a.ensures.read folders refl (none_read files folders c.new-files.result c.new-files.ensures) in
    let b = (rw first at c.in_ok-b.ensures.read) folders refl a in
    nothing_yet files folders 2 c.read_drive-2.new.files b

pub returns-in_err-c-clause-fault : goal.returns-in_err-c-clause-fault
returns-in_err-c-clause-fault g c =
    let files = g.S.FileSystem.files c.args.system.now in
    let folders = c.args.folders.now in
    let first = same_files c.in_ok-a.ensures.unchanged in
    let second = same_files c.in_ok-b.ensures.unchanged ∙ first in
    let a = c.in_ok-a.ensures.read folders refl (none_read files folders c.new-files.result c.new-files.ensures) in
    let b = (rw first at c.in_ok-b.ensures.read) folders refl a in
    let left = err_from_is_err_and c.from_residual-in_err-c.result c.from_residual-in_err-c.ensures.1 in
    rw (left.1, left.2) ((rw second at c.in_err-c.ensures.fault) folders refl b)

pub read_drive-requires-4 : goal.read_drive-requires-4
read_drive-requires-4 g c =
    let files = g.S.FileSystem.files c.args.system.now in
    let folders = c.args.folders.now in
    let first = same_files c.in_ok-a.ensures.unchanged in
    let second = same_files c.in_ok-b.ensures.unchanged ∙ first in
    let a = c.in_ok-a.ensures.read folders refl (none_read files folders c.new-files.result c.new-files.ensures) in
    let b = (rw first at c.in_ok-b.ensures.read) folders refl a in
    nothing_yet files folders 3 c.read_drive-3.new.files ((rw second at c.in_ok-c.ensures.read) folders refl b)

pub returns-in_err-d-clause-fault : goal.returns-in_err-d-clause-fault
returns-in_err-d-clause-fault g c =
    let files = g.S.FileSystem.files c.args.system.now in
    let folders = c.args.folders.now in
    let first = same_files c.in_ok-a.ensures.unchanged in
    let second = same_files c.in_ok-b.ensures.unchanged ∙ first in
    let third = same_files c.in_ok-c.ensures.unchanged ∙ second in
    let a = c.in_ok-a.ensures.read folders refl (none_read files folders c.new-files.result c.new-files.ensures) in
    let b = (rw first at c.in_ok-b.ensures.read) folders refl a in
    let left = err_from_is_err_and c.from_residual-in_err-d.result c.from_residual-in_err-d.ensures.1 in
    rw (left.1, left.2) ((rw third at c.in_err-d.ensures.fault) folders refl ((rw second at c.in_ok-c.ensures.read) folders refl b))

pub returns-clause-files : goal.returns-clause-files
returns-clause-files g c =
    let files = g.S.FileSystem.files c.args.system.now in
    let folders = c.args.folders.now in
    let first = same_files c.in_ok-a.ensures.unchanged in
    let second = same_files c.in_ok-b.ensures.unchanged ∙ first in
    let third = same_files c.in_ok-c.ensures.unchanged ∙ second in
    let a = c.in_ok-a.ensures.read folders refl (none_read files folders c.new-files.result c.new-files.ensures) in
    let b = (rw first at c.in_ok-b.ensures.read) folders refl a in
    let four : length folders ≡ 4 = search rules in
    all_drives files folders 4 c.read_drive-4.new.files four (lit≤ tt) ((rw third at c.in_ok-d.ensures.read) folders refl ((rw second at c.in_ok-c.ensures.read) folders refl b))
