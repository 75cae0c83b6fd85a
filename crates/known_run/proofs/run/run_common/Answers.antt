use Rattle.std.proofs.Common.{ℕ, Bool, false, subst, arith}
use Rattle.std.specs.declared.result.Result.{Result}
use Rattle.i8080.specs.Moves.{MovesByte, with_pc}
use Rattle.i8080.specs.declared.opcode.Op.TheVariants.{Nop, Mov, MovToMemory, Mvi, Lxi, Lda, Sta, Lhld, Shld, Ldax, Stax, Xchg, Accumulate, Inr, Dcr, Inx, Dcx, Dad, Rotate, Daa, Cma, Stc, Jmp, JumpIf, Call, CallIf, Ret, RetIf, Rst, Pchl, Push, Pop, Xthl}
use Rattle.i8080.specs.declared.opcode.Place.TheVariants.{InRegister, Memory as AtHl}
use Rattle.i8080.specs.declared.opcode.Register.TheVariants.{B, C, D, E, H, L, A}
use Rattle.i8080.specs.declared.opcode.Pair.TheVariants.{Bc, De, Hl}
use Rattle.i8080.specs.declared.opcode.Saved.TheVariants.{BcPair, DePair, HlPair, Psw}
use Rattle.i8080.specs.declared.opcode.Base.TheVariants.{InBc, InDe}
use Rattle.i8080.specs.declared.opcode.Source.TheVariants.{At, Immediate}
use Rattle.i8080.specs.declared.opcode.Arithmetic.TheVariants.{Add, Adc, Sub, Sbb, Ana, Xra, Ora, Cmp}
use Rattle.i8080.specs.declared.opcode.Condition.TheVariants.{NotZero, Zero, NoCarry, Carry}
use Rattle.i8080.specs.declared.opcode.Rotation.TheVariants.{Rlc, Rrc, Ral, Rar}
use Rattle.i8080.specs.declared.opcode.Restart.TheVariants.{Rst7}
use Rattle.known_run.proofs.KnownRunLemmas.{arm, goes_once_more, stays}
use Rattle.known_run.proofs.run.run_common.Given
use Rattle.known_run.proofs.run.run_common.Goals as goal
use Rattle.known_run.proofs.run.run_common.Goals.{Joined-byte, in-0, in-1, in-3, in-4, in-5, in-6, in-7, in-9, in-10, in-11, in-12, in-13, in-14, in-15, in-17, in-18, in-19, in-20, in-21, in-22, in-23, in-25, in-26, in-27, in-28, in-29, in-30, in-31, in-33, in-34, in-35, in-36, in-38, in-39, in-41, in-42, in-43, in-44, in-46, in-47, in-50, in-52, in-53, in-54, in-55, in-58, in-60, in-61, in-62, in-65, in-66, in-67, in-68, in-70, in-71, in-72, in-74, in-75, in-76, in-77, in-78, in-79, in-80, in-81, in-83, in-84, in-86, in-87, in-88, in-89, in-90, in-92, in-93, in-94, in-95, in-96, in-97, in-98, in-102, in-103, in-104, in-105, in-106, in-107, in-110, in-111, in-112, in-113, in-114, in-115, in-119, in-120, in-121, in-122, in-123, in-124, in-125, in-126, in-128, in-129, in-130, in-131, in-132, in-133, in-134, in-135, in-137, in-143, in-147, in-150, in-151, in-154, in-166, in-167, in-175, in-176, in-177, in-178, in-179, in-180, in-181, in-182, in-183, in-184, in-185, in-186, in-187, in-188, in-189, in-190, in-191, in-192, in-193, in-194, in-195, in-196, in-197, in-198, in-200, in-201, in-202, in-204, in-205, in-206, in-208, in-209, in-210, in-213, in-214, in-216, in-218, in-225, in-227, in-229, in-230, in-233, in-235, in-238, in-241, in-245, in-246, in-254, in-255}

-- What the arm of the byte does.
moved : (g : Given.Over) (c : Joined-byte g) → MovesByte {X = g.row.M-Refusal.Denot} g.M.Access.is_sure c.opcode-byte.result c.loop-done.pc c.loop-done.regs (g.M.Access.memory c.loop-done.bus) (g.M.Access.is_ready c.loop-done.bus) c.match-byte.next c.match-byte.regs (g.M.Access.memory c.match-byte.bus)
moved g c =
    let memory = g.M.Access.memory in
    let bus = c.loop-done.bus in
    let does = arm memory g.M.Access.is_sure c.opcode-byte.result c.loop-done.pc c.loop-done.regs (memory bus) (g.M.Access.is_ready bus) c.match-byte.next c.match-byte.regs c.match-byte.bus in
    elim c.match-byte.branch [
      | in-0 w ↦ does Nop _ _ _ w.in-0.is w.next-is w.regs-is w.bus-is w.nop-next.ensures
      | in-1 w ↦ does (Lxi Bc) _ _ _ w.in-1.is w.next-is w.regs-is w.bus-is w.lxi-next.ensures
      | in-3 w ↦ does (Inx Bc) _ _ _ w.in-3.is w.next-is w.regs-is w.bus-is w.inx-next.ensures
      | in-4 w ↦ does (Inr (InRegister B)) _ _ _ w.in-4.is w.next-is w.regs-is w.bus-is w.inr-next.ensures
      | in-5 w ↦ does (Dcr (InRegister B)) _ _ _ w.in-5.is w.next-is w.regs-is w.bus-is w.dcr-next.ensures
      | in-6 w ↦ does (Mvi (InRegister B)) _ _ _ w.in-6.is w.next-is w.regs-is w.bus-is w.mvi-next.ensures
      | in-7 w ↦ does (Rotate Rlc) _ _ _ w.in-7.is w.next-is w.regs-is w.bus-is w.rotate-next.ensures
      | in-9 w ↦ does (Dad Bc) _ _ _ w.in-9.is w.next-is w.regs-is w.bus-is w.dad-next.ensures
      | in-10 w ↦ does (Ldax InBc) _ _ _ w.in-10.is w.next-is w.regs-is w.bus-is w.ldax-next.ensures
      | in-11 w ↦ does (Dcx Bc) _ _ _ w.in-11.is w.next-is w.regs-is w.bus-is w.dcx-next.ensures
      | in-12 w ↦ does (Inr (InRegister C)) _ _ _ w.in-12.is w.next-is w.regs-is w.bus-is w.inr-next-in-12.ensures
      | in-13 w ↦ does (Dcr (InRegister C)) _ _ _ w.in-13.is w.next-is w.regs-is w.bus-is w.dcr-next-in-13.ensures
      | in-14 w ↦ does (Mvi (InRegister C)) _ _ _ w.in-14.is w.next-is w.regs-is w.bus-is w.mvi-next-in-14.ensures
      | in-15 w ↦ does (Rotate Rrc) _ _ _ w.in-15.is w.next-is w.regs-is w.bus-is w.rotate-next-in-15.ensures
      | in-17 w ↦ does (Lxi De) _ _ _ w.in-17.is w.next-is w.regs-is w.bus-is w.lxi-next-in-17.ensures
      | in-18 w ↦ does (Stax InDe) _ _ _ w.in-18.is w.next-is w.regs-is w.bus-is w.stax-next.ensures
      | in-19 w ↦ does (Inx De) _ _ _ w.in-19.is w.next-is w.regs-is w.bus-is w.inx-next-in-19.ensures
      | in-20 w ↦ does (Inr (InRegister D)) _ _ _ w.in-20.is w.next-is w.regs-is w.bus-is w.inr-next-in-20.ensures
      | in-21 w ↦ does (Dcr (InRegister D)) _ _ _ w.in-21.is w.next-is w.regs-is w.bus-is w.dcr-next-in-21.ensures
      | in-22 w ↦ does (Mvi (InRegister D)) _ _ _ w.in-22.is w.next-is w.regs-is w.bus-is w.mvi-next-in-22.ensures
      | in-23 w ↦ does (Rotate Ral) _ _ _ w.in-23.is w.next-is w.regs-is w.bus-is w.rotate-next-in-23.ensures
      | in-25 w ↦ does (Dad De) _ _ _ w.in-25.is w.next-is w.regs-is w.bus-is w.dad-next-in-25.ensures
      | in-26 w ↦ does (Ldax InDe) _ _ _ w.in-26.is w.next-is w.regs-is w.bus-is w.ldax-next-in-26.ensures
      | in-27 w ↦ does (Dcx De) _ _ _ w.in-27.is w.next-is w.regs-is w.bus-is w.dcx-next-in-27.ensures
      | in-28 w ↦ does (Inr (InRegister E)) _ _ _ w.in-28.is w.next-is w.regs-is w.bus-is w.inr-next-in-28.ensures
      | in-29 w ↦ does (Dcr (InRegister E)) _ _ _ w.in-29.is w.next-is w.regs-is w.bus-is w.dcr-next-in-29.ensures
      | in-30 w ↦ does (Mvi (InRegister E)) _ _ _ w.in-30.is w.next-is w.regs-is w.bus-is w.mvi-next-in-30.ensures
      | in-31 w ↦ does (Rotate Rar) _ _ _ w.in-31.is w.next-is w.regs-is w.bus-is w.rotate-next-in-31.ensures
      | in-33 w ↦ does (Lxi Hl) _ _ _ w.in-33.is w.next-is w.regs-is w.bus-is w.lxi-next-in-33.ensures
      | in-34 w ↦ does Shld _ _ _ w.in-34.is w.next-is w.regs-is w.bus-is w.shld-next.ensures
      | in-35 w ↦ does (Inx Hl) _ _ _ w.in-35.is w.next-is w.regs-is w.bus-is w.inx-next-in-35.ensures
      | in-36 w ↦ does (Inr (InRegister H)) _ _ _ w.in-36.is w.next-is w.regs-is w.bus-is w.inr-next-in-36.ensures
      | in-38 w ↦ does (Mvi (InRegister H)) _ _ _ w.in-38.is w.next-is w.regs-is w.bus-is w.mvi-next-in-38.ensures
      | in-39 w ↦ does Daa _ _ _ w.in-39.is w.next-is w.regs-is w.bus-is w.daa-next.ensures
      | in-41 w ↦ does (Dad Hl) _ _ _ w.in-41.is w.next-is w.regs-is w.bus-is w.dad-next-in-41.ensures
      | in-42 w ↦ does Lhld _ _ _ w.in-42.is w.next-is w.regs-is w.bus-is w.lhld-next.ensures
      | in-43 w ↦ does (Dcx Hl) _ _ _ w.in-43.is w.next-is w.regs-is w.bus-is w.dcx-next-in-43.ensures
      | in-44 w ↦ does (Inr (InRegister L)) _ _ _ w.in-44.is w.next-is w.regs-is w.bus-is w.inr-next-in-44.ensures
      | in-46 w ↦ does (Mvi (InRegister L)) _ _ _ w.in-46.is w.next-is w.regs-is w.bus-is w.mvi-next-in-46.ensures
      | in-47 w ↦ does Cma _ _ _ w.in-47.is w.next-is w.regs-is w.bus-is w.cma-next.ensures
      | in-50 w ↦ does Sta _ _ _ w.in-50.is w.next-is w.regs-is w.bus-is w.sta-next.ensures
      | in-52 w ↦ does (Inr AtHl) _ _ _ w.in-52.is w.next-is w.regs-is w.bus-is w.inr-next-in-52.ensures
      | in-53 w ↦ does (Dcr AtHl) _ _ _ w.in-53.is w.next-is w.regs-is w.bus-is w.dcr-next-in-53.ensures
      | in-54 w ↦ does (Mvi AtHl) _ _ _ w.in-54.is w.next-is w.regs-is w.bus-is w.mvi-next-in-54.ensures
      | in-55 w ↦ does Stc _ _ _ w.in-55.is w.next-is w.regs-is w.bus-is w.stc-next.ensures
      | in-58 w ↦ does Lda _ _ _ w.in-58.is w.next-is w.regs-is w.bus-is w.lda-next.ensures
      | in-60 w ↦ does (Inr (InRegister A)) _ _ _ w.in-60.is w.next-is w.regs-is w.bus-is w.inr-next-in-60.ensures
      | in-61 w ↦ does (Dcr (InRegister A)) _ _ _ w.in-61.is w.next-is w.regs-is w.bus-is w.dcr-next-in-61.ensures
      | in-62 w ↦ does (Mvi (InRegister A)) _ _ _ w.in-62.is w.next-is w.regs-is w.bus-is w.mvi-next-in-62.ensures
      | in-65 w ↦ does (Mov B (InRegister C)) _ _ _ w.in-65.is w.next-is w.regs-is w.bus-is w.mov-next.ensures
      | in-66 w ↦ does (Mov B (InRegister D)) _ _ _ w.in-66.is w.next-is w.regs-is w.bus-is w.mov-next-in-66.ensures
      | in-67 w ↦ does (Mov B (InRegister E)) _ _ _ w.in-67.is w.next-is w.regs-is w.bus-is w.mov-next-in-67.ensures
      | in-68 w ↦ does (Mov B (InRegister H)) _ _ _ w.in-68.is w.next-is w.regs-is w.bus-is w.mov-next-in-68.ensures
      | in-70 w ↦ does (Mov B AtHl) _ _ _ w.in-70.is w.next-is w.regs-is w.bus-is w.mov-next-in-70.ensures
      | in-71 w ↦ does (Mov B (InRegister A)) _ _ _ w.in-71.is w.next-is w.regs-is w.bus-is w.mov-next-in-71.ensures
      | in-72 w ↦ does (Mov C (InRegister B)) _ _ _ w.in-72.is w.next-is w.regs-is w.bus-is w.mov-next-in-72.ensures
      | in-74 w ↦ does (Mov C (InRegister D)) _ _ _ w.in-74.is w.next-is w.regs-is w.bus-is w.mov-next-in-74.ensures
      | in-75 w ↦ does (Mov C (InRegister E)) _ _ _ w.in-75.is w.next-is w.regs-is w.bus-is w.mov-next-in-75.ensures
      | in-76 w ↦ does (Mov C (InRegister H)) _ _ _ w.in-76.is w.next-is w.regs-is w.bus-is w.mov-next-in-76.ensures
      | in-77 w ↦ does (Mov C (InRegister L)) _ _ _ w.in-77.is w.next-is w.regs-is w.bus-is w.mov-next-in-77.ensures
      | in-78 w ↦ does (Mov C AtHl) _ _ _ w.in-78.is w.next-is w.regs-is w.bus-is w.mov-next-in-78.ensures
      | in-79 w ↦ does (Mov C (InRegister A)) _ _ _ w.in-79.is w.next-is w.regs-is w.bus-is w.mov-next-in-79.ensures
      | in-80 w ↦ does (Mov D (InRegister B)) _ _ _ w.in-80.is w.next-is w.regs-is w.bus-is w.mov-next-in-80.ensures
      | in-81 w ↦ does (Mov D (InRegister C)) _ _ _ w.in-81.is w.next-is w.regs-is w.bus-is w.mov-next-in-81.ensures
      | in-83 w ↦ does (Mov D (InRegister E)) _ _ _ w.in-83.is w.next-is w.regs-is w.bus-is w.mov-next-in-83.ensures
      | in-84 w ↦ does (Mov D (InRegister H)) _ _ _ w.in-84.is w.next-is w.regs-is w.bus-is w.mov-next-in-84.ensures
      | in-86 w ↦ does (Mov D AtHl) _ _ _ w.in-86.is w.next-is w.regs-is w.bus-is w.mov-next-in-86.ensures
      | in-87 w ↦ does (Mov D (InRegister A)) _ _ _ w.in-87.is w.next-is w.regs-is w.bus-is w.mov-next-in-87.ensures
      | in-88 w ↦ does (Mov E (InRegister B)) _ _ _ w.in-88.is w.next-is w.regs-is w.bus-is w.mov-next-in-88.ensures
      | in-89 w ↦ does (Mov E (InRegister C)) _ _ _ w.in-89.is w.next-is w.regs-is w.bus-is w.mov-next-in-89.ensures
      | in-90 w ↦ does (Mov E (InRegister D)) _ _ _ w.in-90.is w.next-is w.regs-is w.bus-is w.mov-next-in-90.ensures
      | in-92 w ↦ does (Mov E (InRegister H)) _ _ _ w.in-92.is w.next-is w.regs-is w.bus-is w.mov-next-in-92.ensures
      | in-93 w ↦ does (Mov E (InRegister L)) _ _ _ w.in-93.is w.next-is w.regs-is w.bus-is w.mov-next-in-93.ensures
      | in-94 w ↦ does (Mov E AtHl) _ _ _ w.in-94.is w.next-is w.regs-is w.bus-is w.mov-next-in-94.ensures
      | in-95 w ↦ does (Mov E (InRegister A)) _ _ _ w.in-95.is w.next-is w.regs-is w.bus-is w.mov-next-in-95.ensures
      | in-96 w ↦ does (Mov H (InRegister B)) _ _ _ w.in-96.is w.next-is w.regs-is w.bus-is w.mov-next-in-96.ensures
      | in-97 w ↦ does (Mov H (InRegister C)) _ _ _ w.in-97.is w.next-is w.regs-is w.bus-is w.mov-next-in-97.ensures
      | in-98 w ↦ does (Mov H (InRegister D)) _ _ _ w.in-98.is w.next-is w.regs-is w.bus-is w.mov-next-in-98.ensures
      | in-102 w ↦ does (Mov H AtHl) _ _ _ w.in-102.is w.next-is w.regs-is w.bus-is w.mov-next-in-102.ensures
      | in-103 w ↦ does (Mov H (InRegister A)) _ _ _ w.in-103.is w.next-is w.regs-is w.bus-is w.mov-next-in-103.ensures
      | in-104 w ↦ does (Mov L (InRegister B)) _ _ _ w.in-104.is w.next-is w.regs-is w.bus-is w.mov-next-in-104.ensures
      | in-105 w ↦ does (Mov L (InRegister C)) _ _ _ w.in-105.is w.next-is w.regs-is w.bus-is w.mov-next-in-105.ensures
      | in-106 w ↦ does (Mov L (InRegister D)) _ _ _ w.in-106.is w.next-is w.regs-is w.bus-is w.mov-next-in-106.ensures
      | in-107 w ↦ does (Mov L (InRegister E)) _ _ _ w.in-107.is w.next-is w.regs-is w.bus-is w.mov-next-in-107.ensures
      | in-110 w ↦ does (Mov L AtHl) _ _ _ w.in-110.is w.next-is w.regs-is w.bus-is w.mov-next-in-110.ensures
      | in-111 w ↦ does (Mov L (InRegister A)) _ _ _ w.in-111.is w.next-is w.regs-is w.bus-is w.mov-next-in-111.ensures
      | in-112 w ↦ does (MovToMemory B) _ _ _ w.in-112.is w.next-is w.regs-is w.bus-is w.mov_to_memory-next.ensures
      | in-113 w ↦ does (MovToMemory C) _ _ _ w.in-113.is w.next-is w.regs-is w.bus-is w.mov_to_memory-next-in-113.ensures
      | in-114 w ↦ does (MovToMemory D) _ _ _ w.in-114.is w.next-is w.regs-is w.bus-is w.mov_to_memory-next-in-114.ensures
      | in-115 w ↦ does (MovToMemory E) _ _ _ w.in-115.is w.next-is w.regs-is w.bus-is w.mov_to_memory-next-in-115.ensures
      | in-119 w ↦ does (MovToMemory A) _ _ _ w.in-119.is w.next-is w.regs-is w.bus-is w.mov_to_memory-next-in-119.ensures
      | in-120 w ↦ does (Mov A (InRegister B)) _ _ _ w.in-120.is w.next-is w.regs-is w.bus-is w.mov-next-in-120.ensures
      | in-121 w ↦ does (Mov A (InRegister C)) _ _ _ w.in-121.is w.next-is w.regs-is w.bus-is w.mov-next-in-121.ensures
      | in-122 w ↦ does (Mov A (InRegister D)) _ _ _ w.in-122.is w.next-is w.regs-is w.bus-is w.mov-next-in-122.ensures
      | in-123 w ↦ does (Mov A (InRegister E)) _ _ _ w.in-123.is w.next-is w.regs-is w.bus-is w.mov-next-in-123.ensures
      | in-124 w ↦ does (Mov A (InRegister H)) _ _ _ w.in-124.is w.next-is w.regs-is w.bus-is w.mov-next-in-124.ensures
      | in-125 w ↦ does (Mov A (InRegister L)) _ _ _ w.in-125.is w.next-is w.regs-is w.bus-is w.mov-next-in-125.ensures
      | in-126 w ↦ does (Mov A AtHl) _ _ _ w.in-126.is w.next-is w.regs-is w.bus-is w.mov-next-in-126.ensures
      | in-128 w ↦ does (Accumulate Add (At (InRegister B))) _ _ _ w.in-128.is w.next-is w.regs-is w.bus-is w.add-next.ensures
      | in-129 w ↦ does (Accumulate Add (At (InRegister C))) _ _ _ w.in-129.is w.next-is w.regs-is w.bus-is w.add-next-in-129.ensures
      | in-130 w ↦ does (Accumulate Add (At (InRegister D))) _ _ _ w.in-130.is w.next-is w.regs-is w.bus-is w.add-next-in-130.ensures
      | in-131 w ↦ does (Accumulate Add (At (InRegister E))) _ _ _ w.in-131.is w.next-is w.regs-is w.bus-is w.add-next-in-131.ensures
      | in-132 w ↦ does (Accumulate Add (At (InRegister H))) _ _ _ w.in-132.is w.next-is w.regs-is w.bus-is w.add-next-in-132.ensures
      | in-133 w ↦ does (Accumulate Add (At (InRegister L))) _ _ _ w.in-133.is w.next-is w.regs-is w.bus-is w.add-next-in-133.ensures
      | in-134 w ↦ does (Accumulate Add (At AtHl)) _ _ _ w.in-134.is w.next-is w.regs-is w.bus-is w.add-next-in-134.ensures
      | in-135 w ↦ does (Accumulate Add (At (InRegister A))) _ _ _ w.in-135.is w.next-is w.regs-is w.bus-is w.add-next-in-135.ensures
      | in-137 w ↦ does (Accumulate Adc (At (InRegister C))) _ _ _ w.in-137.is w.next-is w.regs-is w.bus-is w.adc-next.ensures
      | in-143 w ↦ does (Accumulate Adc (At (InRegister A))) _ _ _ w.in-143.is w.next-is w.regs-is w.bus-is w.adc-next-in-143.ensures
      | in-147 w ↦ does (Accumulate Sub (At (InRegister E))) _ _ _ w.in-147.is w.next-is w.regs-is w.bus-is w.sub-next.ensures
      | in-150 w ↦ does (Accumulate Sub (At AtHl)) _ _ _ w.in-150.is w.next-is w.regs-is w.bus-is w.sub-next-in-150.ensures
      | in-151 w ↦ does (Accumulate Sub (At (InRegister A))) _ _ _ w.in-151.is w.next-is w.regs-is w.bus-is w.sub-next-in-151.ensures
      | in-154 w ↦ does (Accumulate Sbb (At (InRegister D))) _ _ _ w.in-154.is w.next-is w.regs-is w.bus-is w.sbb-next.ensures
      | in-166 w ↦ does (Accumulate Ana (At AtHl)) _ _ _ w.in-166.is w.next-is w.regs-is w.bus-is w.ana-next.ensures
      | in-167 w ↦ does (Accumulate Ana (At (InRegister A))) _ _ _ w.in-167.is w.next-is w.regs-is w.bus-is w.ana-next-in-167.ensures
      | in-175 w ↦ does (Accumulate Xra (At (InRegister A))) _ _ _ w.in-175.is w.next-is w.regs-is w.bus-is w.xra-next.ensures
      | in-176 w ↦ does (Accumulate Ora (At (InRegister B))) _ _ _ w.in-176.is w.next-is w.regs-is w.bus-is w.ora-next.ensures
      | in-177 w ↦ does (Accumulate Ora (At (InRegister C))) _ _ _ w.in-177.is w.next-is w.regs-is w.bus-is w.ora-next-in-177.ensures
      | in-178 w ↦ does (Accumulate Ora (At (InRegister D))) _ _ _ w.in-178.is w.next-is w.regs-is w.bus-is w.ora-next-in-178.ensures
      | in-179 w ↦ does (Accumulate Ora (At (InRegister E))) _ _ _ w.in-179.is w.next-is w.regs-is w.bus-is w.ora-next-in-179.ensures
      | in-180 w ↦ does (Accumulate Ora (At (InRegister H))) _ _ _ w.in-180.is w.next-is w.regs-is w.bus-is w.ora-next-in-180.ensures
      | in-181 w ↦ does (Accumulate Ora (At (InRegister L))) _ _ _ w.in-181.is w.next-is w.regs-is w.bus-is w.ora-next-in-181.ensures
      | in-182 w ↦ does (Accumulate Ora (At AtHl)) _ _ _ w.in-182.is w.next-is w.regs-is w.bus-is w.ora-next-in-182.ensures
      | in-183 w ↦ does (Accumulate Ora (At (InRegister A))) _ _ _ w.in-183.is w.next-is w.regs-is w.bus-is w.ora-next-in-183.ensures
      | in-184 w ↦ does (Accumulate Cmp (At (InRegister B))) _ _ _ w.in-184.is w.next-is w.regs-is w.bus-is w.cmp-next.ensures
      | in-185 w ↦ does (Accumulate Cmp (At (InRegister C))) _ _ _ w.in-185.is w.next-is w.regs-is w.bus-is w.cmp-next-in-185.ensures
      | in-186 w ↦ does (Accumulate Cmp (At (InRegister D))) _ _ _ w.in-186.is w.next-is w.regs-is w.bus-is w.cmp-next-in-186.ensures
      | in-187 w ↦ does (Accumulate Cmp (At (InRegister E))) _ _ _ w.in-187.is w.next-is w.regs-is w.bus-is w.cmp-next-in-187.ensures
      | in-188 w ↦ does (Accumulate Cmp (At (InRegister H))) _ _ _ w.in-188.is w.next-is w.regs-is w.bus-is w.cmp-next-in-188.ensures
      | in-189 w ↦ does (Accumulate Cmp (At (InRegister L))) _ _ _ w.in-189.is w.next-is w.regs-is w.bus-is w.cmp-next-in-189.ensures
      | in-190 w ↦ does (Accumulate Cmp (At AtHl)) _ _ _ w.in-190.is w.next-is w.regs-is w.bus-is w.cmp-next-in-190.ensures
      | in-191 w ↦ does (Accumulate Cmp (At (InRegister A))) _ _ _ w.in-191.is w.next-is w.regs-is w.bus-is w.cmp-next-in-191.ensures
      | in-192 w ↦ does (RetIf NotZero) _ _ _ w.in-192.is w.next-is w.regs-is w.bus-is w.ret_if-next.ensures
      | in-193 w ↦ does (Pop BcPair) _ _ _ w.in-193.is w.next-is w.regs-is w.bus-is w.pop-next.ensures
      | in-194 w ↦ does (JumpIf NotZero) _ _ _ w.in-194.is w.next-is w.regs-is w.bus-is w.jump_if-next.ensures
      | in-195 w ↦ does Jmp _ _ _ w.in-195.is w.next-is w.regs-is w.bus-is w.jmp-next.ensures
      | in-196 w ↦ does (CallIf NotZero) _ _ _ w.in-196.is w.next-is w.regs-is w.bus-is w.call_if-next.ensures
      | in-197 w ↦ does (Push BcPair) _ _ _ w.in-197.is w.next-is w.regs-is w.bus-is w.push-next.ensures
      | in-198 w ↦ does (Accumulate Add Immediate) _ _ _ w.in-198.is w.next-is w.regs-is w.bus-is w.accumulate_immediate-next.ensures
      | in-200 w ↦ does (RetIf Zero) _ _ _ w.in-200.is w.next-is w.regs-is w.bus-is w.ret_if-next-in-200.ensures
      | in-201 w ↦ does Ret _ _ _ w.in-201.is w.next-is w.regs-is w.bus-is w.ret-next.ensures
      | in-202 w ↦ does (JumpIf Zero) _ _ _ w.in-202.is w.next-is w.regs-is w.bus-is w.jump_if-next-in-202.ensures
      | in-204 w ↦ does (CallIf Zero) _ _ _ w.in-204.is w.next-is w.regs-is w.bus-is w.call_if-next-in-204.ensures
      | in-205 w ↦ does Call _ _ _ w.in-205.is w.next-is w.regs-is w.bus-is w.call-next.ensures
      | in-206 w ↦ does (Accumulate Adc Immediate) _ _ _ w.in-206.is w.next-is w.regs-is w.bus-is w.accumulate_immediate-next-in-206.ensures
      | in-208 w ↦ does (RetIf NoCarry) _ _ _ w.in-208.is w.next-is w.regs-is w.bus-is w.ret_if-next-in-208.ensures
      | in-209 w ↦ does (Pop DePair) _ _ _ w.in-209.is w.next-is w.regs-is w.bus-is w.pop-next-in-209.ensures
      | in-210 w ↦ does (JumpIf NoCarry) _ _ _ w.in-210.is w.next-is w.regs-is w.bus-is w.jump_if-next-in-210.ensures
      | in-213 w ↦ does (Push DePair) _ _ _ w.in-213.is w.next-is w.regs-is w.bus-is w.push-next-in-213.ensures
      | in-214 w ↦ does (Accumulate Sub Immediate) _ _ _ w.in-214.is w.next-is w.regs-is w.bus-is w.accumulate_immediate-next-in-214.ensures
      | in-216 w ↦ does (RetIf Carry) _ _ _ w.in-216.is w.next-is w.regs-is w.bus-is w.ret_if-next-in-216.ensures
      | in-218 w ↦ does (JumpIf Carry) _ _ _ w.in-218.is w.next-is w.regs-is w.bus-is w.jump_if-next-in-218.ensures
      | in-225 w ↦ does (Pop HlPair) _ _ _ w.in-225.is w.next-is w.regs-is w.bus-is w.pop-next-in-225.ensures
      | in-227 w ↦ does Xthl _ _ _ w.in-227.is w.next-is w.regs-is w.bus-is w.xthl-next.ensures
      | in-229 w ↦ does (Push HlPair) _ _ _ w.in-229.is w.next-is w.regs-is w.bus-is w.push-next-in-229.ensures
      | in-230 w ↦ does (Accumulate Ana Immediate) _ _ _ w.in-230.is w.next-is w.regs-is w.bus-is w.accumulate_immediate-next-in-230.ensures
      | in-233 w ↦ does Pchl _ _ _ w.in-233.is w.next-is w.regs-is w.bus-is w.pchl-next.ensures
      | in-235 w ↦ does Xchg _ _ _ w.in-235.is w.next-is w.regs-is w.bus-is w.xchg-next.ensures
      | in-238 w ↦ does (Accumulate Xra Immediate) _ _ _ w.in-238.is w.next-is w.regs-is w.bus-is w.accumulate_immediate-next-in-238.ensures
      | in-241 w ↦ does (Pop Psw) _ _ _ w.in-241.is w.next-is w.regs-is w.bus-is w.pop-next-in-241.ensures
      | in-245 w ↦ does (Push Psw) _ _ _ w.in-245.is w.next-is w.regs-is w.bus-is w.push-next-in-245.ensures
      | in-246 w ↦ does (Accumulate Ora Immediate) _ _ _ w.in-246.is w.next-is w.regs-is w.bus-is w.accumulate_immediate-next-in-246.ensures
      | in-254 w ↦ does (Accumulate Cmp Immediate) _ _ _ w.in-254.is w.next-is w.regs-is w.bus-is w.accumulate_immediate-next-in-254.ensures
      | in-255 w ↦ does (Rst Rst7) _ _ _ w.in-255.is w.next-is w.regs-is w.bus-is w.rst-next.ensures
    ]

-- And what it does over a memory of which reads are no looks.
quiet : (g : Given.Over) (c : Joined-byte g) → MovesByte {X = g.row.M-Refusal.Denot} false c.opcode-byte.result c.loop-done.pc c.loop-done.regs (g.M.Access.memory c.loop-done.bus) (g.M.Access.is_ready c.loop-done.bus) c.match-byte.next c.match-byte.regs (g.M.Access.memory c.match-byte.bus)
quiet g c = subst (λ (s : Bool). MovesByte {X = g.row.M-Refusal.Denot} s c.opcode-byte.result c.loop-done.pc c.loop-done.regs (g.M.Access.memory c.loop-done.bus) (g.M.Access.is_ready c.loop-done.bus) c.match-byte.next c.match-byte.regs (g.M.Access.memory c.match-byte.bus)) c.requires (moved g c)

pub loop-done-preserved : goal.loop-done-preserved
loop-done-preserved g c =
    let memory = g.M.Access.memory in
    let bus = c.loop-done.bus in
    let ready = g.M.Access.is_ready bus in
    let byte = c.opcode-byte.result in
    let e = c.opcode-byte.ensures in
    let went = subst (λ (z : Result ℕ g.row.M-Refusal.Denot). MovesByte {X = g.row.M-Refusal.Denot} false byte c.loop-done.pc c.loop-done.regs (memory bus) ready z c.match-byte.regs (memory c.match-byte.bus)) c.in-Ok.is (quiet g c.before) in
    record {
      within = omega arith;
      ran = goes_once_more memory g.M.Access.opcode_limit c.loop-done.done (with_pc c.args.pc c.args.regs.now) c.args.bus.now (with_pc c.loop-done.pc c.loop-done.regs) bus (with_pc c.in-Ok.to c.match-byte.regs) c.match-byte.bus c.loop-done.invariant.ran ready byte e.value e.unlooked e.low went;
    }

pub returns-in-Err : goal.returns-in-Err
returns-in-Err g c =
    let memory = g.M.Access.memory in
    let bus = c.loop-done.bus in
    let ready = g.M.Access.is_ready bus in
    let byte = c.opcode-byte.result in
    let refused = subst (λ (z : Result ℕ g.row.M-Refusal.Denot). MovesByte {X = g.row.M-Refusal.Denot} false byte c.loop-done.pc c.loop-done.regs (memory bus) ready z c.match-byte.regs (memory c.match-byte.bus)) c.in-Err.is (quiet g c.before.before) in
    record {
      within = c.loop-done.invariant.within;
      ran = stays memory g.M.Access.opcode_limit c.loop-done.done (with_pc c.args.pc c.args.regs.now) c.args.bus.now (with_pc c.loop-done.pc c.loop-done.regs) bus (with_pc c.loop-done.pc c.match-byte.regs) c.match-byte.bus c.loop-done.invariant.ran ready byte c.in-Err.field-0 refused;
    }
